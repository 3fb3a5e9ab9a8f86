-- Where a judge is, and what it may answer there.
use Rattle.std.proofs.Common.{◌≡◌, ◌≢◌, ℕ, ◌+◌, ◌^◌, ◌≤◌, inl, inr, Bool, true, List, [], ◌∷◌, ◌++◌, length, refl, sym}
use Rattle.std.proofs.Common.{ap, subst, ◌∙◌, append-nil, append_assoc, arith, Result, Ok, Err, length-append}
use Rattle.std.proofs.lemmas.{Grind.flat_map-append, List.{length_push, length-map, take-append-le, Elements.All-nil}}
use Rattle.cap_streams.specs.declared.{judging.judge_faults.JudgeFault.TheVariants.Pull, sources.PullFault.PullFault}
use Rattle.cap_streams.specs.declared.lines.{Lines.Lines, Next.{Next, TheVariants.{Line, LineTooLong, Truncated}}}
use Rattle.cap_streams.specs.{declared.lines.Next.TheVariants.Finished, Front.{IsLine, IsCut, IsFrontText, IsTooLong}}
use Rattle.cap_streams.specs.Takings.{IsNext, Answered, kept, over_of}
use Rattle.cap_streams.proofs.FrontLemmas.{IsLine-more, IsLine-not_cut, IsLine-not_too_long, IsTooLong-more}
use Rattle.cap_streams.proofs.FrontLemmas.{IsTooLong-not_cut}
use Rattle.cap_heap.specs.declared.{events.EventEnd.EventEnd, lines.HeapLine.{HeapLine, TheVariants.{Happens, End}}}
use Rattle.cap_heap.specs.declared.{progress.Progress.Progress, refusal.HeapRefusal.HeapRefusal, log_parts.LogPart.LogPart}
use Rattle.cap_heap.specs.declared.verdict.HeapVerdict.{HeapVerdict, TheVariants.{No, Yes}}
use Rattle.cap_heap.specs.Beginnings.{Beginning, Nothing, Headed, Body, Whole, lines_of, events_of, due_of, root_of}
use Rattle.cap_heap.specs.Beginnings.{IsAccepted, RefusesWhole, RefusesBehind, body_lines}
use Rattle.cap_heap.specs.{HeapLines.{IsHeapLineInRange, heap_spelling}, HeapLogs.heap_text_of}
use Rattle.cap_heap.specs.{HeapVerdicts.{IsHeapVerdictOf, Lasts, MayLackHeapMemory, ReportsAfter}, Heaps.live_in}
use Rattle.cap_heap.specs.Judgings.{JudgedBy, StopsAfter, answer_at, finished_in, refused_in}
use Rattle.cap_heap.specs.Progresses.{StandsFor, Stays, TakesText, EndsText, IsAt, IsStopped, LacksMemory}
use Rattle.cap_heap.proofs.{BeginningLemmas.{begins, fault_of, is_log}, Optimal.optimal}

pub accepted : (progress : Progress) (beginning : Beginning) → StandsFor progress beginning → IsAccepted beginning
accepted progress Nothing stands = tt
accepted progress Headed stands = tt
accepted progress (Body root events) stands = stands.1.runs
accepted progress (Whole root events) stands = stands.1.runs

-- a log has few lines
few_lines : (progress : Progress) (beginning : Beginning) → StandsFor progress beginning → length (lines_of beginning) ≤ 2 ^ 32 + 3
few_lines progress Nothing stands = omega arith
few_lines progress Headed stands = omega arith
few_lines progress (Body root events) stands = omega (arith, stands.1.runs.few, length-map events Happens)
few_lines progress (Whole root events) stands =
    omega (arith, stands.1.runs.few, length-map events Happens, length_push (body_lines root events) (End (length events)))

pub few : (bytes : List ℕ) (progress : Progress) (rest : List ℕ) (line : ℕ) → IsAt bytes progress rest line → line ≤ 2 ^ 32 + 4
few bytes progress rest line at = omega (arith, at.line_is, few_lines progress at.beginning at.stands)

-- more bytes behind all
at_more : (bytes rest more : List ℕ) (progress : Progress) (line : ℕ) → IsAt bytes progress rest line
    → IsAt (bytes ++ more) progress (rest ++ more) line
at_more bytes rest more progress line at = record {
  beginning = at.beginning;
  stands = at.stands;
  bytes_are = ap (λ (l : List ℕ). l ++ more) at.bytes_are ∙ append_assoc (heap_text_of (lines_of at.beginning)) rest more;
  line_is = at.line_is;
}

-- one line more
pub text_push : (lines : List HeapLine) (line : HeapLine) (rest : List ℕ)
    → heap_text_of (lines ++ line ∷ []) ++ rest ≡ heap_text_of lines ++ (heap_spelling line ++ 10 ∷ rest)
text_push lines line rest =
    let piece = λ (l : HeapLine). heap_spelling l ++ 10 ∷ [] in
    ap (λ (text : List ℕ). text ++ rest) (flat_map-append piece lines (line ∷ []))
    ∙ simp (append_assoc)

goes_on : (bytes rest text left : List ℕ) (old new : Progress) (line : ℕ) → IsAt bytes old rest line → IsLine rest text left
    → TakesText old text new → IsAt bytes new left (line + 1)
goes_on bytes rest text left old new line at whole takes =
    let next = takes.2 at.beginning at.stands in record {
      beginning = next.0;
      stands = next.1;
      bytes_are =
          at.bytes_are
          ∙ ap (λ (r : List ℕ). heap_text_of (lines_of at.beginning) ++ r)
          (whole.whole ∙ ap (λ (t : List ℕ). t ++ 10 ∷ left) takes.1.1)
          ∙ sym (text_push (lines_of at.beginning) takes.0 left)
          ∙ ap (λ (ls : List HeapLine). heap_text_of ls ++ left) (sym next.2);
      line_is = omega (arith, at.line_is, ap length next.2, length_push (lines_of at.beginning) takes.0);
    }

-- before an answer of the next call, with what that says
pub record Stands {S : Type 0} (gave : S → S → List ℕ → Type 0) (ended : S → Bool) (old new : S) (progress : Progress) (line : ℕ)
    (lines : Lines) (answer : Result Next PullFault) : Type 0 where
  pub given : List ℕ
  pub gives : gave old new given
  pub rest : List ℕ
  pub at : IsAt given progress rest line
  pub next : IsNext rest (ended new) (kept lines) (over_of lines) answer

pub stands : {S : Type 0} (gave : S → S → List ℕ → Type 0) (ended : S → Bool) (a b c : S) (progress : Progress) (line : ℕ) (before : List ℕ)
    (lines : Lines) (answer shown : Result Next PullFault)
    → ((x y z : S) (xs ys : List ℕ) → gave x y xs → gave y z ys → gave x z (xs ++ ys))
    → ((given : List ℕ) × gave a b given × IsAt given progress before line)
    → Answered gave ended b c before lines answer → answer ≡ shown → Stands gave ended a c progress line lines shown
stands gave ended a b c progress line before lines answer shown joined so_far answered same = record {
  given = so_far.0 ++ answered.given;
  gives = joined a b c so_far.0 answered.given so_far.1 answered.gives;
  rest = before ++ answered.given;
  at = at_more so_far.0 before answered.given progress line so_far.2;
  next = subst (IsNext (before ++ answered.given) (ended c) (kept lines) (over_of lines)) same answered.answers;
}

no_bytes : IsCut []
no_bytes = (omega arith, All-nil (λ b. b ≢ 10))

-- what holds of bytes holds where no byte follows them
with_none : (Fact : List ℕ → Type 0) (rest more : List ℕ) → more ≡ [] → Fact rest → Fact (rest ++ more)
with_none Fact rest more none holds =
    subst (λ (m : List ℕ). Fact (rest ++ m)) (sym none) (subst Fact (sym (append-nil rest)) holds)

-- the refusal of a line that is too long or cut, and that what follows a beginning is refused so
abbrev RefusedAt : Progress → ℕ → HeapRefusal → (HeapRefusal → Type 0) → Type 0
RefusedAt progress line refusal Holds = (shown : HeapRefusal) × (refused_in progress.stage line refusal ≡ No line shown) × Holds shown

shown_as : (progress : Progress) (line : ℕ) (refusal : HeapRefusal) (stage : LogPart) → progress.stage ≡ stage
    → refused_in progress.stage line refusal ≡ refused_in stage line refusal
shown_as progress line refusal stage is = ap (λ (s : LogPart). refused_in s line refusal) is

refuses_cut : (progress : Progress) (line : ℕ) (rest : List ℕ) (beginning : Beginning) → StandsFor progress beginning → IsCut rest → rest ≢ []
    → RefusedAt progress line HeapRefusal.Truncated (RefusesBehind beginning rest)
refuses_cut progress line rest Nothing stands cut some =
    (HeapRefusal.Truncated, shown_as progress line HeapRefusal.Truncated _ stands, inr (inl (cut, refl)))
refuses_cut progress line rest Headed stands cut some =
    (HeapRefusal.Truncated, shown_as progress line HeapRefusal.Truncated _ stands, inr (inl (cut, refl)))
refuses_cut progress line rest (Body root events) stands cut some =
    (HeapRefusal.Truncated, shown_as progress line HeapRefusal.Truncated _ stands.0, inr (inl (cut, refl)))
refuses_cut progress line rest (Whole root events) stands cut some =
    (HeapRefusal.Misplaced, shown_as progress line HeapRefusal.Truncated _ stands.0, (some, refl))

refuses_long : (progress : Progress) (line : ℕ) (rest : List ℕ) (beginning : Beginning) → StandsFor progress beginning → IsTooLong rest
    → RefusedAt progress line HeapRefusal.LineTooLong (λ shown. (more : List ℕ) → RefusesBehind beginning (rest ++ more) shown)
refuses_long progress line rest Nothing stands long =
    (HeapRefusal.LineTooLong, shown_as progress line HeapRefusal.LineTooLong _ stands, λ more. inl (IsTooLong-more rest more long, refl))
refuses_long progress line rest Headed stands long =
    (HeapRefusal.LineTooLong, shown_as progress line HeapRefusal.LineTooLong _ stands, λ more. inl (IsTooLong-more rest more long, refl))
refuses_long progress line rest (Body root events) stands long =
    (HeapRefusal.LineTooLong, shown_as progress line HeapRefusal.LineTooLong _ stands.0, λ more. inl (IsTooLong-more rest more long, refl))
refuses_long progress line rest (Whole root events) stands long = (
  HeapRefusal.Misplaced,
  shown_as progress line HeapRefusal.LineTooLong _ stands.0,
  λ more. (λ none. omega (arith, ap length none, length-append rest more, long.0), refl),
)

-- a whole line that is refused is so whatever follows it
refuses_line : (beginning : Beginning) (rest text left : List ℕ) (refusal : HeapRefusal) → IsLine rest text left
    → RefusesWhole beginning text refusal → (more : List ℕ) → RefusesBehind beginning (rest ++ more) refusal
refuses_line Nothing rest text left refusal whole refuses more =
    inr (inr (text, left ++ more, IsLine-more rest text left more whole, refuses))
refuses_line Headed rest text left refusal whole refuses more =
    inr (inr (text, left ++ more, IsLine-more rest text left more whole, refuses))
refuses_line (Body root events) rest text left refusal whole refuses more =
    inr (inr (text, left ++ more, IsLine-more rest text left more whole, refuses))
refuses_line (Whole root events) rest text left refusal whole refuses more = (
  λ none. omega (arith, ap length none, length-append rest more, ap length whole.whole, length-append text (10 ∷ left)),
  refuses,
)

-- a line for which there was no memory
lacks : (progress : Progress) (given rest text left : List ℕ) (beginning : Beginning) → StandsFor progress beginning
    → LacksMemory beginning text → IsLine rest text left → given ≡ heap_text_of (lines_of beginning) ++ rest → MayLackHeapMemory given
lacks progress given rest text left Nothing stands lack whole bytes = absurd lack
lacks progress given rest text left Headed stands lack whole bytes = absurd lack
lacks progress given rest text left (Whole root events) stands lack whole bytes = absurd lack
lacks progress given rest text left (Body root events) stands (line, spells, (address, size, is, few, room)) whole bytes = record {
  root = root;
  events = events;
  address = address;
  size = size;
  more = left;
  before = body_lines root events;
  log = is_log root events stands.1.runs;
  bytes_are = bytes
      ∙ ap (λ (r : List ℕ). heap_text_of (body_lines root events) ++ r)
      (whole.whole ∙ ap (λ (t : List ℕ). t ++ 10 ∷ left) (spells.1 ∙ ap heap_spelling is));
  range = subst IsHeapLineInRange is spells.0;
  few = few;
  room = room;
}

-- the text of a line that is cut, too long or whole, whatever follows it
cut_text : (rest more text : List ℕ) → more ≡ [] → IsFrontText rest text → IsFrontText (rest ++ more) text
cut_text rest more text none is = with_none (λ (bytes : List ℕ). IsFrontText bytes text) rest more none is

long_text : (rest more text : List ℕ) → IsTooLong rest → IsFrontText rest text → IsFrontText (rest ++ more) text
long_text rest more text long (inl (too, is)) = inl (IsTooLong-more rest more long, is ∙ sym (take-append-le 96 rest more long.0))
long_text rest more text long (inr (inl (cut, is))) = absurd (IsTooLong-not_cut rest long cut)
long_text rest more text long (inr (inr (line, left, whole, is))) = absurd (IsLine-not_too_long rest line left whole long)

whole_text : (rest line left more text : List ℕ) → IsLine rest line left → IsFrontText line text → IsFrontText (rest ++ more) text
whole_text rest line left more text whole (inl (long, is)) = absurd (omega (arith, long.0, whole.short))
whole_text rest line left more text whole (inr (inl (cut, is))) = inr (inr (line, left ++ more, IsLine-more rest line left more whole, is))
whole_text rest line left more text whole (inr (inr (other, behind, is_line, is))) =
    absurd (IsLine-not_cut line other behind is_line (whole.short, whole.one))

module _ {S : Type 0} {gave : S → S → List ℕ → Type 0} {ended : S → Bool} {old new : S} {progress : Progress} {lines : Lines} (line : ℕ) where
  -- a verdict, with its report and the line that was refused
  answered : {shown : Result Next PullFault} (verdict : HeapVerdict) (p : Stands gave ended old new progress line lines shown)
      (after : Progress) (text : List ℕ) → ReportsAfter p.given after.report verdict → StopsAfter p.given (ended new) after text verdict
      → IsHeapVerdictOf p.given (ended new) verdict → JudgedBy gave ended old new (Ok verdict) after text
  answered verdict p after text reports stops is = record {
    judged = record {
      given = p.given;
      gives = p.gives;
      answer = record { verdict = is; optimal = optimal p.given (ended new) verdict is; fault = tt };
    };
    reported = reports;
    stopped = stops;
  }

  -- the source failed
  pub pulled : (failed : PullFault) (text : List ℕ) → Stands gave ended old new progress line lines (Err failed)
      → JudgedBy gave ended old new (Err Pull) progress text
  pulled failed text p = record {
    judged = record {
      given = p.given;
      gives = p.gives;
      answer = record {
        verdict = tt;
        optimal = tt;
        fault = record {
          root = root_of p.at.beginning;
          events = events_of p.at.beginning;
          before = lines_of p.at.beginning;
          due = due_of p.at.beginning;
          rest = p.rest;
          log = begins p.at.beginning (accepted progress p.at.beginning p.at.stands);
          bytes_are = p.at.bytes_are;
          cut = p.next.0;
        };
      };
    };
    reported = tt;
    stopped = tt;
  }

  -- what follows a beginning is refused
  refused_met : {shown : Result Next PullFault} (p : Stands gave ended old new progress line lines shown) (after : Progress)
      (refusal : HeapRefusal) (text rest : List ℕ) (beginning : Beginning) → StandsFor progress beginning → StandsFor after beginning
      → p.given ≡ heap_text_of (lines_of beginning) ++ rest → line ≡ length (lines_of beginning) + 1
      → ((more : List ℕ) → (ended new ≡ true → more ≡ []) → RefusesBehind beginning (rest ++ more) refusal × IsFrontText (rest ++ more) text)
      → JudgedBy gave ended old new (Ok (No line refusal)) after text
  refused_met p after refusal text rest beginning stands stands_after bytes number all =
      let stops : Lasts p.given (ended new) (λ whole. IsStopped whole after text line refusal) = λ more none. record {
        beginning = beginning;
        rest = rest ++ more;
        bytes_are = ap (λ (l : List ℕ). l ++ more) bytes ∙ append_assoc (heap_text_of (lines_of beginning)) rest more;
        accepted = accepted progress beginning stands;
        number_is = number;
        refused = (all more none).0;
        stands = stands_after;
        front = (all more none).1;
      } in
      answered (No line refusal) p after text tt stops (λ more none. fault_of (stops more none))

  -- the bytes end at a line's start
  module _ (p : Stands gave ended old new progress line lines (Ok Finished)) where
    ends_here : (beginning : Beginning) → StandsFor progress beginning → p.given ≡ heap_text_of (lines_of beginning) ++ []
        → line ≡ length (lines_of beginning) + 1 → ((rest : List ℕ) → IsCut rest → RefusesBehind beginning rest HeapRefusal.Truncated)
        → JudgedBy gave ended old new (Ok (No line HeapRefusal.Truncated)) progress []
    ends_here beginning stands bytes number refuses =
        refused_met p progress HeapRefusal.Truncated [] [] beginning stands stands bytes number
        (λ more none. let is = none p.next.1 in (
          with_none (λ (b : List ℕ). RefusesBehind beginning b HeapRefusal.Truncated) [] more is (refuses [] no_bytes),
          with_none (λ (b : List ℕ). IsFrontText b []) [] more is (inr (inl (no_bytes, refl))),
        ))

    finish : (beginning : Beginning) → StandsFor progress beginning → p.given ≡ heap_text_of (lines_of beginning) ++ []
        → line ≡ length (lines_of beginning) + 1
        → JudgedBy gave ended old new (Ok (finished_in progress.stage progress.events (live_in progress.heap) line)) progress []
    finish Nothing stands bytes number =
        subst (λ (stage : LogPart). JudgedBy gave ended old new (Ok (finished_in stage progress.events (live_in progress.heap) line)) progress [])
        (sym stands) (ends_here Nothing stands bytes number (λ rest cut. inr (inl (cut, refl))))
    finish Headed stands bytes number =
        subst (λ (stage : LogPart). JudgedBy gave ended old new (Ok (finished_in stage progress.events (live_in progress.heap) line)) progress [])
        (sym stands) (ends_here Headed stands bytes number (λ rest cut. inr (inl (cut, refl))))
    finish (Body root events) stands bytes number =
        subst (λ (stage : LogPart). JudgedBy gave ended old new (Ok (finished_in stage progress.events (live_in progress.heap) line)) progress [])
        (sym stands.0) (ends_here (Body root events) stands bytes number (λ rest cut. inr (inl (cut, refl))))
    finish (Whole root events) stands bytes number =
        let bytes_are : p.given ≡ heap_text_of (lines_of (Whole root events)) = bytes ∙ append-nil (heap_text_of (lines_of (Whole root events))) in
        let log = is_log root events stands.1.runs in
        subst (λ (stage : LogPart). JudgedBy gave ended old new (Ok (finished_in stage progress.events (live_in progress.heap) line)) progress [])
        (sym stands.0)
        (answered (Yes progress.events (live_in progress.heap)) p progress [] (lines_of (Whole root events), root, events, bytes_are, log, stands.1.report_is) tt
        (p.next.1, lines_of (Whole root events), root, events, bytes_are, log, stands.1.count_is, stands.1.live_is))

    pub at_finish : JudgedBy gave ended old new (Ok (finished_in progress.stage progress.events (live_in progress.heap) line)) progress []
    at_finish = finish p.at.beginning p.at.stands
        (subst (λ (r : List ℕ). p.given ≡ heap_text_of (lines_of p.at.beginning) ++ r) p.next.0 p.at.bytes_are) p.at.line_is

  -- or in the middle of a line
  pub at_cut : (text : List ℕ) → IsFrontText (kept lines) text → Stands gave ended old new progress line lines (Ok Truncated)
      → JudgedBy gave ended old new (Ok (refused_in progress.stage line HeapRefusal.Truncated)) progress text
  at_cut text front p =
      let here = refuses_cut progress line p.rest p.at.beginning p.at.stands p.next.0 p.next.1 in
      let left : kept lines ≡ p.rest = p.next.4 in
      subst (λ (verdict : HeapVerdict). JudgedBy gave ended old new (Ok verdict) progress text) (sym here.1)
      (refused_met p progress here.0 text p.rest p.at.beginning p.at.stands p.at.stands p.at.bytes_are p.at.line_is
      (λ more none. let is = none p.next.2 in (
        with_none (λ (b : List ℕ). RefusesBehind p.at.beginning b here.0) p.rest more is here.2,
        cut_text p.rest more text is (subst (λ (b : List ℕ). IsFrontText b text) left front),
      )))

  -- the line is too long
  pub at_long : (text : List ℕ) → IsFrontText (kept lines) text → Stands gave ended old new progress line lines (Ok LineTooLong)
      → JudgedBy gave ended old new (Ok (refused_in progress.stage line HeapRefusal.LineTooLong)) progress text
  at_long text front p =
      let here = refuses_long progress line p.rest p.at.beginning p.at.stands p.next.0 in
      let left : kept lines ≡ p.rest = p.next.2 in
      subst (λ (verdict : HeapVerdict). JudgedBy gave ended old new (Ok verdict) progress text) (sym here.1)
      (refused_met p progress here.0 text p.rest p.at.beginning p.at.stands p.at.stands p.at.bytes_are p.at.line_is
      (λ more none. (
        here.2 more,
        long_text p.rest more text p.next.0 (subst (λ (b : List ℕ). IsFrontText b text) left front),
      )))

  -- the line is not taken
  pub at_line : (text : _) → Stands gave ended old new progress line lines (Ok (Line text)) → (held : List ℕ)
      → IsFrontText text.now held → (end : EventEnd) → EndsText progress text.now end
      → (after : Progress) → Stays progress after → JudgedBy gave ended old new (answer_at line end) after held
  at_line text p held front (EventEnd.Refused refusal) told after stays =
      refused_met p after refusal held p.rest p.at.beginning p.at.stands (stays p.at.beginning p.at.stands) p.at.bytes_are p.at.line_is
      (λ more none. (
        refuses_line p.at.beginning p.rest text.now (kept lines) refusal p.next.0 (told p.at.beginning p.at.stands) more,
        whole_text p.rest text.now (kept lines) more held p.next.0 front,
      ))
  at_line text p held front EventEnd.NoMemory told after stays = record {
    judged = record {
      given = p.given;
      gives = p.gives;
      answer = record {
        verdict = tt;
        optimal = tt;
        fault = lacks progress p.given p.rest text.now (kept lines) p.at.beginning p.at.stands (told p.at.beginning p.at.stands) p.next.0
            p.at.bytes_are;
      };
    };
    reported = tt;
    stopped = tt;
  }

  -- or it is taken
  pub line_taken : (text : _) (p : Stands gave ended old new progress line lines (Ok (Line text))) (next : Progress)
      → TakesText progress text.now next → IsAt p.given next (kept lines) (line + 1)
  line_taken text p next takes = goes_on p.given p.rest text.now (kept lines) progress next line p.at p.next.0 takes
