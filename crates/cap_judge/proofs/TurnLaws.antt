-- From stages to logs and their first faults: a stage that is reached is that of a beginning.
use Rattle.std.proofs.Common.{◌≡◌, ◌≢◌, ℕ, ◌+◌, ◌≤◌, ◌==◌, if◌then◌else◌, inl, inr, Bool, true, false, IsTrue, List, [], ◌∷◌, ◌++◌, length, map}
use Rattle.std.proofs.Common.{refl, sym, ap, subst, ◌∙◌, append-nil, append_assoc, arith, not, None, Some, Option}
use Rattle.std.proofs.{Common.length-append, lemmas.{Bool.{false≢true}, List.length-map, Option.{none-some, same_Some}}}
use Rattle.cap_ops.specs.declared.refusal.Refusal.{Refusal, TheVariants.{BadLine, LineTooLong, Misplaced, Truncated}}
use Rattle.cap_ops.specs.Checks.{first_of}
use Rattle.cap_log.specs.{declared.{kinds.Step.Step, lines.Line.Line}, Lines.{IsInRange, Spells, spelling}}
use Rattle.cap_log.specs.Parts.{ReadsAs as Spelled}
use Rattle.cap_streams.specs.Front.{IsCut}
use Rattle.cap_log.proofs.SpellingLemmas.{one_spelling}
use Rattle.cap_machine.specs.{declared.rules.Rules.{Rules, TheVariants.One}, Accounts.{Account, is_new}, Helds.{Held, account_of}}
use Rattle.cap_machine.specs.States.{DeclaredRoot}
use Rattle.cap_machine.proofs.AccountLemmas.{account_after-grows}
use Rattle.cap_turns.specs.Turns.{Body, Due, Ended, First, Goes, IsAtFault, Refused, Second, lines_by, refusal_by}
use Rattle.cap_turns.specs.{Verdicts.{IsLastFront, IsNo, Lacks, RefusesCut, long_refusal}, Readings.{Faults, Follows, RefusesNext}}
use Rattle.cap_turns.specs.Verdicts as turns
use Rattle.cap_turns.proofs.EndLemmas.{StopsWith, cut_told, refused_told, refuses_next}
use Rattle.cap_turns.proofs.{FollowLemmas.{clear_goes, fault_end, faults_at, follows_more, refused_in}, OneEnd.one_reading}
use Rattle.cap_turns.proofs.{SomeEnd.some_end, Laws.AreTurns}
use Rattle.cap_turns.proofs.EndLemmas as turns_told
use Rattle.cap_judge.specs.declared.verdict.Verdict.{Verdict, TheVariants.{Yes, No}}
use Rattle.cap_judge.specs.Judgings.{IsBehind, IsVerdictOf, StopsBefore, account_before}
use Rattle.cap_judge.specs.Logs.{Beginning, Empty, NoMode, Body as BodyOf, Whole, body_lines, header_lines, lines_of, text_of}
use Rattle.cap_judge.specs.Logs.{account_after, IsAccepted, IsFirstFault, IsLogOf, LacksRoom, MayLackMemory, Refuses, RefusesLine}
use Rattle.cap_judge.specs.Logs.{RefusesWhole, has_form, line_checks, named_by_line}
use Rattle.cap_judge.specs.Readings.{BeginsWhole, VerdictAtEnd, IsReached, IsRest, Stands, VerdictWith, verdict_so_far}
use Rattle.cap_judge.specs.{Turns.{LogStage, log_turns, unread}, Verdicts.IsVerdict}
use Rattle.cap_judge.proofs.InTurn.{accepted_read, all_longer, due_after, stage_after, with_lines}
use Rattle.cap_judge.proofs.JudgeLemmas.{no_form, IsUnended, behind_more, fault_behind, front_refused, yes_of}
use Rattle.cap_judge.proofs.{LogLemmas.accepted_in_range, OneVerdict.{IsAnswerFor, answer_stops}, TurnLemmas.{allowed_form, log_spelled}}

-- What a stage says of a beginning

-- lines that are read lead to a beginning
pub begun : (bytes : List ℕ) (new : LogStage) → (goes : Goes log_turns unread bytes new)
    → (beginning : Beginning) × IsAccepted beginning × (lines_of beginning ≡ goes.lines) × (stage_after beginning ≡ new)
begun bytes new goes =
    let all = all_longer Empty goes.lines new tt goes.in_range goes.reads in (with_lines Empty goes.lines, all.0, all.1, all.2)

not_fault : (beginning : Beginning) → IsAtFault (due_after beginning) → ⊥
not_fault Empty is = is
not_fault beginning is = is

no_rest : (beginning : Beginning) → IsRest (due_after beginning) beginning []
no_rest Empty = refl
no_rest beginning = refl

-- how many lines it has
body_count : (rules_are : Rules) (roots : List DeclaredRoot) (steps : List Step)
    → length (body_lines rules_are roots steps) ≡ length (header_lines rules_are) + (length roots + length steps)
body_count rules_are roots steps =
    let root_line = λ (root : DeclaredRoot). Line.Root root.place root.word in
    omega (
      arith,
      length-append (header_lines rules_are) (map root_line roots ++ map Line.Step steps),
      length-append (map root_line roots) (map Line.Step steps),
      length-map roots root_line,
      length-map steps Line.Step,
    )

body_counted : (rules_are : Rules) (roots : List DeclaredRoot) (steps : List Step)
    → lines_by log_turns (account_after rules_are roots steps) Body ≡ length (body_lines rules_are roots steps)
body_counted rules_are roots steps =
    let grown = account_after-grows rules_are roots steps in
    omega (
      arith,
      ap (λ (r : Rules). length (header_lines r)) grown.rules_stay,
      grown.roots_are,
      grown.steps_are,
      body_count rules_are roots steps,
    )

end_count : (rules_are : Rules) (roots : List DeclaredRoot) (steps : List Step)
    → length (lines_of (Whole rules_are roots steps)) ≡ length (body_lines rules_are roots steps) + 1
end_count rules_are roots steps = length-append (body_lines rules_are roots steps) (Line.End (length steps) ∷ [])

counted : (beginning : Beginning)
    → (let stage = stage_after beginning in lines_by log_turns stage.state stage.due ≡ length (lines_of beginning))
counted (BodyOf rules_are roots steps) = body_counted rules_are roots steps
counted (Whole rules_are roots steps) = omega (arith, body_counted rules_are roots steps, end_count rules_are roots steps)
counted beginning = refl

few_header : (rules_are : Rules) → length (header_lines rules_are) ≤ 2
few_header One = omega arith
few_header rules_are = omega arith

-- there are no more than the limits allow
few_lines : (beginning : Beginning) → IsAccepted beginning → length (lines_of beginning) ≤ 4294971394
few_lines (BodyOf rules_are roots steps) runs =
    omega (arith, runs.few_roots, runs.few_steps, few_header rules_are, body_count rules_are roots steps)
few_lines (Whole rules_are roots steps) runs =
    let body = body_count rules_are roots steps in
    omega (arith, runs.few_roots, runs.few_steps, few_header rules_are, body, end_count rules_are roots steps)
few_lines beginning accepted = omega arith

pub count_read : (bytes : List ℕ) (new : LogStage) → (goes : Goes log_turns unread bytes new)
    → (lines_by log_turns new.state new.due ≡ length goes.lines) × (length goes.lines ≤ 4294971394)
count_read bytes new goes =
    let b = begun bytes new goes in (
      subst (λ (s : LogStage). lines_by log_turns s.state s.due ≡ length goes.lines) b.3 (counted b.0 ∙ ap length b.2),
      subst (λ (ls : List Line). length ls ≤ 4294971394) b.2 (few_lines b.0 b.1),
    )

-- no line leads to a faulty one
next_clear : (line : Line) → IsAtFault (log_turns.next line) → ⊥
next_clear (Line.Version version) is = by_version (version == 1) is
  where
    by_version : (one : Bool) → IsAtFault {Refusal = Refusal} (if one then Body else Second) → ⊥
    by_version true is = is
    by_version false is = is
next_clear (Line.End count) is = is
next_clear line is = is

-- how lines are read
pub log_lawful : AreTurns log_turns unread
log_lawful = record {
  spelled = log_spelled;
  clear = next_clear;
  begun = λ is. is;
  counted = λ bytes stage goes. (count_read bytes stage goes).0;
}

-- A line that is refused at a stage is refused after its beginning, whatever follows it

body_refuses : (account : Account) (text : List ℕ) (line : Line) (form : Bool) (refusal : Refusal) → Spells text line
    → has_form account.rules line ≡ form → first_of ((not form, BadLine) ∷ line_checks account line) ≡ Some refusal
    → RefusesLine account text refusal
body_refuses account text line true refusal spells is refused = inr (line, (spells, is), refused)
body_refuses account text line false refusal spells is refused =
    inl (no_form account.rules text line spells is, sym (same_Some BadLine refusal refused))

pub refuses_text : (beginning : Beginning) (text : List ℕ) (line : Option Line) (refusal : Refusal) → IsUnended beginning
    → Spelled IsInRange spelling text line → refusal_by log_turns (stage_after beginning).state (stage_after beginning).due line ≡ Some refusal
    → RefusesWhole beginning text refusal
refuses_text Empty text (Some (Line.Version version)) refusal goes is refused = absurd (none-some _ refused)
refuses_text Empty text (Some line) refusal goes is refused =
    (λ version spells. let same = one_spelling text line (Line.Version version) is spells in cc, sym (same_Some _ _ refused))
refuses_text Empty text None refusal goes none refused = (λ version spells. none _ spells.0 spells.1, sym (same_Some _ _ refused))
refuses_text NoMode text (Some (Line.Mode mode)) refusal goes is refused = absurd (none-some _ refused)
refuses_text NoMode text (Some line) refusal goes is refused =
    (λ mode spells. let same = one_spelling text line (Line.Mode mode) is spells in cc, sym (same_Some _ _ refused))
refuses_text NoMode text None refusal goes none refused = (λ mode spells. none _ spells.0 spells.1, sym (same_Some _ _ refused))
refuses_text (BodyOf rules_are roots steps) text (Some line) refusal goes is refused =
    body_refuses (account_after rules_are roots steps) text line _ refusal is refl refused
refuses_text (BodyOf rules_are roots steps) text None refusal goes none refused =
    inl (λ line by. none line by.0.0 by.0.1, sym (same_Some _ _ refused))
refuses_text (Whole rules_are roots steps) text line refusal goes is refused = absurd goes

long_is : (beginning : Beginning) → IsUnended beginning → long_refusal log_turns (stage_after beginning).due ≡ LineTooLong
long_is (Whole rules_are roots steps) goes = absurd goes
long_is beginning goes = refl

cut_is : (beginning : Beginning) (rest : List ℕ) (refusal : Refusal) → IsUnended beginning
    → RefusesCut log_turns (due_after beginning) rest refusal → refusal ≡ Truncated
cut_is (Whole rules_are roots steps) rest refusal goes is = absurd goes
cut_is beginning rest refusal goes is = is

unended_refuses : (beginning : Beginning) (rest : List ℕ) (refusal : Refusal) → IsUnended beginning
    → turns.Refuses log_turns (stage_after beginning) rest refusal → Refuses beginning rest refusal
unended_refuses beginning rest refusal goes (inl long) =
    front_refused beginning rest refusal goes (inl (long.0, long.1 ∙ long_is beginning goes))
unended_refuses beginning rest refusal goes (inr (inl cut)) =
    front_refused beginning rest refusal goes (inr (inl (cut.0, cut_is beginning rest refusal goes cut.1)))
unended_refuses beginning rest refusal goes (inr (inr (text, more, whole, (line, is, refused)))) =
    front_refused beginning rest refusal goes (inr (inr (text, more, whole, refuses_text beginning text line refusal goes is refused)))

refuses : (beginning : Beginning) (rest : List ℕ) (refusal : Refusal) → turns.Refuses log_turns (stage_after beginning) rest refusal
    → Refuses beginning rest refusal
refuses (Whole rules_are roots steps) rest refusal (inl long) = (λ none. omega (arith, long.0.0, ap length none), long.1)
refuses (Whole rules_are roots steps) rest refusal (inr (inl cut)) = cut.1
refuses (Whole rules_are roots steps) rest refusal (inr (inr (text, more, whole, (line, is, refused)))) =
    (λ none. omega (arith, ap length (sym whole.whole ∙ none), length-append text (10 ∷ more)), sym (same_Some Misplaced refusal refused))
refuses beginning rest refusal refused = unended_refuses beginning rest refusal tt refused

-- the first fault and the end of a log, told of stages
pub first_fault_of : (bytes : List ℕ) (line : ℕ) (refusal : Refusal) → turns.IsFirstFault log_turns unread bytes line refusal
    → IsFirstFault bytes line refusal
first_fault_of bytes line refusal fault =
    let b = begun fault.behind.front fault.stage fault.behind.goes in
    record {
      beginning = b.0;
      rest = fault.rest;
      bytes_are = fault.behind.bytes_are ∙ ap (λ (f : List ℕ). f ++ fault.rest) (fault.behind.goes.bytes_are ∙ ap text_of (sym b.2));
      accepted = b.1;
      number_is = fault.number_is ∙ ap (λ (ls : List Line). length ls + 1) (sym b.2);
      refused = refuses b.0 fault.rest refusal (subst (λ (s : LogStage). turns.Refuses log_turns s fault.rest refusal) (sym b.3) fault.refused);
    }

-- A stage that is reached

-- what begins with the first faulty line stands after the lines before it
pub fault_reached : (front rest : List ℕ) (middle new : LogStage) → Goes log_turns unread front middle → Faults log_turns middle rest new
    → (is : IsReached new (front ++ rest)) × (is.rest ≡ rest)
fault_reached front rest middle new goes (inl (at_fault, same)) =
    let b = begun front middle goes in absurd (not_fault b.0 (subst (λ (s : LogStage). IsAtFault s.due) (sym b.3) at_fault))
fault_reached front rest middle new goes (inr (clear, refusal, text, refused, is_front, new_is)) =
    let b = begun front middle goes in (
      record {
        beginning = b.0;
        rest = rest;
        behind = record { bytes_are = ap (λ (f : List ℕ). f ++ rest) (goes.bytes_are ∙ ap text_of (sym b.2)); accepted = b.1 };
        account = ap (λ (s : LogStage). s.state) new_is ∙ ap (λ (s : LogStage). s.state) (sym b.3);
        rest_is = subst (λ (s : LogStage). IsRest s.due b.0 rest) (sym new_is) (
          ap (λ (n : ℕ). n + 1) (subst (λ (s : LogStage). lines_by log_turns s.state s.due ≡ length (lines_of b.0)) b.3 (counted b.0)),
          is_front,
          λ more. refuses b.0 (rest ++ more) refusal
              (refuses_next log_turns (stage_after b.0) rest refusal
              (subst (λ (s : LogStage). RefusesNext log_turns s rest refusal) (sym b.3) refused) more),
        );
      },
      refl,
    )

pub reached : (bytes : List ℕ) (new : LogStage) → Follows log_turns unread bytes new → IsReached new bytes
reached bytes new (inl goes) =
    let b = begun bytes new goes in
    record {
      beginning = b.0;
      rest = [];
      behind = record { bytes_are = goes.bytes_are ∙ ap text_of (sym b.2) ∙ sym (append-nil _); accepted = b.1 };
      account = ap (λ (s : LogStage). s.state) (sym b.3);
      rest_is = subst (λ (s : LogStage). IsRest s.due b.0 []) b.3 (no_rest b.0);
    }
reached bytes new (inr (front, rest, are, middle, goes, faults)) =
    subst (IsReached new) (sym are) (fault_reached front rest middle new goes faults).0

-- where no line is faulty, all that was read begins a log
all_read : (due : Due Refusal) (beginning : Beginning) (rest : List ℕ) → (IsAtFault due → ⊥) → IsRest due beginning rest → rest ≡ []
all_read (Refused line refusal text) beginning rest clear is = absurd (clear tt)
all_read due beginning rest clear is = is

pub begins : (bytes : List ℕ) (stage : LogStage) → IsReached stage bytes → (IsAtFault stage.due → ⊥) → BeginsWhole bytes
begins bytes stage is clear = record {
  beginning = is.beginning;
  bytes_are = is.behind.bytes_are
      ∙ ap (λ (r : List ℕ). text_of (lines_of is.beginning) ++ r) (all_read stage.due is.beginning is.rest clear is.rest_is) ∙ append-nil _;
  accepted = is.behind.accepted;
}

-- where one is, its no stands, whatever bytes follow
module _ (bytes : List ℕ) (stage : LogStage) (line : ℕ) (refusal : Refusal) (text : List ℕ) (is : IsReached stage bytes)
    (due : stage.due ≡ Refused line refusal text) where
  found : IsRest (Refused line refusal text) is.beginning is.rest
  found = subst (λ (d : Due Refusal). IsRest d is.beginning is.rest) due is.rest_is

  first_fault : (more : List ℕ) → IsFirstFault (bytes ++ more) line refusal
  first_fault more =
      subst (λ (n : ℕ). IsFirstFault (bytes ++ more) n refusal) (sym found.0)
      (fault_behind (bytes ++ more) (is.rest ++ more) is.beginning refusal
      (behind_more bytes is.rest more is.beginning is.behind) (found.2 more))

  pub fault_stands : (ended : Bool) → IsVerdictOf bytes ended (No line refusal)
  fault_stands true = subst (λ (b : List ℕ). IsFirstFault b line refusal) (append-nil bytes) (first_fault [])
  fault_stands false = first_fault

pub stands_so_far : (bytes : List ℕ) (account_is : Account) (due : Due Refusal) → IsReached (record { state = account_is; due = due }) bytes
    → Stands bytes (verdict_so_far due)
stands_so_far bytes account (Refused line refusal text) is = fault_stands bytes _ line refusal text is refl false
stands_so_far bytes account due is = begins bytes _ is (λ f. f)

-- nothing begins with a line
pub some_bytes : (text rest : List ℕ) → [] ≡ text ++ 10 ∷ rest → ⊥
some_bytes text rest is = omega (arith, ap length is, length-append text (10 ∷ rest))

no_front : (text : List ℕ) → IsLastFront [] false text → ⊥
no_front text (inl long) = omega (arith, long.0.0)
no_front text (inr (inl cut)) = false≢true cut.1.1
no_front text (inr (inr line)) = some_bytes line.0 line.1 line.2.whole

-- of what begins a log, nothing is left where a verdict is
pub nothing_left : (bytes : List ℕ) (beginning : Beginning) (rest : List ℕ) (verdict : Verdict) → BeginsWhole bytes
    → IsBehind bytes beginning rest → IsAnswerFor beginning rest verdict → [] ≡ rest
nothing_left bytes beginning rest verdict whole here answers =
    (one_reading log_turns log_spelled unread (stage_after whole.beginning) (stage_after beginning) (lines_of whole.beginning) (lines_of beginning) [] rest
    (accepted_in_range _ whole.accepted) (accepted_in_range _ here.accepted) (accepted_read _ whole.accepted) (accepted_read _ here.accepted)
    (λ line more range allowed front. some_bytes (spelling line) more front) (answer_stops beginning rest verdict answers)
    (append-nil _ ∙ sym whole.bytes_are ∙ here.bytes_are)).1

-- so no line of it is faulty
pub never_faulty : (bytes : List ℕ) (stage : LogStage) → IsReached stage bytes → BeginsWhole bytes → IsAtFault stage.due → ⊥
never_faulty bytes stage is whole at_fault =
    let (line, refusal, text, due) = refused_in stage.due at_fault in
    let found = subst (λ (d : Due Refusal). IsRest d is.beginning is.rest) due is.rest_is in
    let refused = subst (λ (r : List ℕ). Refuses is.beginning r refusal) (append-nil is.rest) (found.2 []) in
    let none = nothing_left bytes is.beginning is.rest (No line refusal) whole is.behind (found.0, refused) in
    no_front text (subst (λ (r : List ℕ). IsLastFront r false text) (sym none) found.1)

pub none_so_far : (bytes : List ℕ) (account_is : Account) (due : Due Refusal) → IsReached (record { state = account_is; due = due }) bytes
    → BeginsWhole bytes → verdict_so_far due ≡ None
none_so_far bytes account (Refused line refusal text) is whole = absurd (never_faulty bytes _ is whole tt)
none_so_far bytes account due is whole = refl

-- Want of memory

-- a line that may want it stands in a body
in_body : (account : Account) (due : Due Refusal) (line : Line) → refusal_by log_turns account due (Some line) ≡ None
    → IsTrue (is_new account (named_by_line account line)) → due ≡ Body
in_body account Body line allowed wants = refl
in_body account First (Line.Version version) allowed wants = absurd (false≢true wants)
in_body account First line allowed wants = absurd (none-some _ (sym allowed))
in_body account Second (Line.Mode mode) allowed wants = absurd (false≢true wants)
in_body account Second line allowed wants = absurd (none-some _ (sym allowed))
in_body account due line allowed wants = absurd (none-some _ (sym allowed))

pub lacks_in_body : (stage : LogStage) (rest more : List ℕ) → Lacks log_turns stage rest more → stage.due ≡ Body
lacks_in_body stage rest more lacks = in_body stage.state stage.due lacks.line lacks.allowed lacks.wants

lacks_line : (beginning : Beginning) (rest more : List ℕ) → IsAccepted beginning → Lacks log_turns (stage_after beginning) rest more
    → MayLackMemory (text_of (lines_of beginning) ++ rest) more
lacks_line (BodyOf rules_are roots steps) rest more runs lacks =
    let line = lacks.line in
    let allowed = allowed_form (account_after rules_are roots steps) line lacks.allowed in
    record {
      rules = rules_are;
      roots = roots;
      steps = steps;
      line = line;
      text = spelling line;
      bytes_are = ap (λ (b : List ℕ). text_of (body_lines rules_are roots steps) ++ b) lacks.begins.1
          ∙ sym (append_assoc (text_of (body_lines rules_are roots steps)) (spelling line) (10 ∷ more));
      runs = runs;
      spelled = (
        (lacks.begins.0, refl),
        subst (λ (r : Rules). has_form r line ≡ true) (account_after-grows rules_are roots steps).rules_stay allowed.0,
      );
      free = allowed.1;
      first = lacks.wants;
    }
lacks_line beginning rest more accepted lacks = let no : ⊥ = cc (lacks_in_body (stage_after beginning) rest more lacks) in absurd no

pub lacks_memory : (bytes rest more : List ℕ) (stage : LogStage) → Follows log_turns unread bytes stage → Lacks log_turns stage rest more
    → MayLackMemory (bytes ++ rest) more
lacks_memory bytes rest more stage follows lacks =
    let goes = clear_goes log_turns unread bytes stage follows (λ at_fault. subst IsAtFault (lacks_in_body stage rest more lacks) at_fault) in
    let b = begun bytes stage goes in
    subst (λ (t : List ℕ). MayLackMemory (t ++ rest) more) (ap text_of b.2 ∙ sym goes.bytes_are)
    (lacks_line b.0 rest more b.1 (subst (λ (s : LogStage). Lacks log_turns s rest more) (sym b.3) lacks))

-- where at least so many granules were named
lacks_room_line : (room : ℕ) (beginning : Beginning) (rest more : List ℕ) → IsAccepted beginning
    → Lacks log_turns (stage_after beginning) rest more → room ≤ (stage_after beginning).state.granules
    → LacksRoom room (text_of (lines_of beginning) ++ rest)
unfolding lacks_line
lacks_room_line room (BodyOf rules_are roots steps) rest more runs lacks many =
    (more, lacks_line (BodyOf rules_are roots steps) rest more runs lacks, many)
lacks_room_line room beginning rest more accepted lacks many = let no : ⊥ = cc (lacks_in_body (stage_after beginning) rest more lacks) in absurd no

pub lacks_room : (room : ℕ) (bytes rest more : List ℕ) (stage : LogStage) → Goes log_turns unread bytes stage → Lacks log_turns stage rest more
    → room ≤ stage.state.granules → LacksRoom room (bytes ++ rest)
lacks_room room bytes rest more stage goes lacks many =
    let b = begun bytes stage goes in
    subst (λ (t : List ℕ). LacksRoom room (t ++ rest)) (ap text_of b.2 ∙ sym goes.bytes_are)
    (lacks_room_line room b.0 rest more b.1 (subst (λ (s : LogStage). Lacks log_turns s rest more) (sym b.3) lacks)
    (subst (λ (s : LogStage). room ≤ s.state.granules) (sym b.3) many))

-- Where the bytes end

no_told : (bytes : List ℕ) (ended : Bool) (account : Account) (held : Held) (line : ℕ) (refusal : Refusal) (text : List ℕ)
    → IsNo log_turns unread bytes ended line refusal → StopsWith log_turns unread bytes ended account line text → account_of held ≡ account
    → VerdictWith bytes ended held (No line refusal) text
no_told bytes ended account held line refusal text is (before, same) here = (by_end ended is, tt, stops)
  where
    by_end : (ended : Bool) → IsNo log_turns unread bytes ended line refusal → IsVerdictOf bytes ended (No line refusal)
    by_end true is = first_fault_of bytes line refusal is
    by_end false is = λ more. first_fault_of (bytes ++ more) line refusal (is more)

    stops : StopsBefore bytes ended held line text
    stops =
        let b = begun before.behind.front before.stage before.behind.goes in
        record {
          beginning = b.0;
          rest = before.rest;
          behind = record {
            bytes_are = before.behind.bytes_are ∙ ap (λ (f : List ℕ). f ++ before.rest) (before.behind.goes.bytes_are ∙ ap text_of (sym b.2));
            accepted = b.1;
          };
          line_is = before.line_is ∙ ap (λ (ls : List Line). length ls + 1) (sym b.2);
          account = here ∙ same ∙ ap (λ (s : LogStage). s.state) (sym b.3);
          front = before.front;
        }

-- a log
whole_told : (beginning : Beginning) (bytes : List ℕ) (held : Held) (steps roots : ℕ) (text : List ℕ) → IsAccepted beginning
    → due_after beginning ≡ Ended → bytes ≡ text_of (lines_of beginning) → account_of held ≡ account_before beginning
    → steps ≡ (account_before beginning).steps → roots ≡ (account_before beginning).roots
    → VerdictWith bytes true held (Yes steps roots) text
whole_told (Whole rules_are roots steps) bytes held step_count root_count text runs ended are account steps_are roots_are =
    let counts = account_after-grows rules_are roots steps in
    let log : IsLogOf bytes rules_are roots steps = record { bytes_are = are; runs = runs } in (
      record {
        rules = rules_are;
        roots = roots;
        steps = steps;
        log = log;
        step_count_is = omega (arith, steps_are, counts.steps_are);
        root_count_is = omega (arith, roots_are, counts.roots_are);
      },
      record { rules = rules_are; roots = roots; steps = steps; log = log; account = account },
      tt,
    )
whole_told beginning bytes held steps roots text runs ended are account steps_are roots_are = let never : ⊥ = cc in absurd never

-- after a faulty line
pub fault_ends : (bytes : List ℕ) (stage : LogStage) (line : ℕ) (refusal : Refusal) (text : List ℕ) → Follows log_turns unread bytes stage
    → stage.due ≡ Refused line refusal text → (held : Held) → account_of held ≡ stage.state → (ended : Bool)
    → VerdictWith bytes ended held (No line refusal) text
fault_ends bytes stage line refusal text follows due held same ended =
    let told = refused_told log_turns log_lawful bytes stage ended line refusal text follows due in
    no_told bytes ended stage.state held line refusal text told.0 told.1 same

pub fault_told : (bytes rest : List ℕ) (stage : LogStage) (held : Held) (verdict : Verdict) (text : List ℕ) → Follows log_turns unread bytes stage
    → IsAtFault stage.due → account_of held ≡ stage.state → VerdictAtEnd stage rest verdict text → (ended : Bool)
    → VerdictWith bytes ended held verdict text
fault_told bytes rest stage held (Yes steps roots) text follows at_fault same ends ended =
    absurd (subst IsAtFault (sym (fault_end log_turns stage.state stage.due rest at_fault) ∙ ends.0) at_fault)
fault_told bytes rest stage held (No line refusal) text follows at_fault same ends ended =
    fault_ends bytes stage line refusal text follows (sym (fault_end log_turns stage.state stage.due rest at_fault) ∙ ends) held same ended

pub told : (bytes rest : List ℕ) (stage : LogStage) (held : Held) (verdict : Verdict) (text : List ℕ) → Follows log_turns unread bytes stage
    → account_of held ≡ stage.state → IsCut rest → VerdictAtEnd stage rest verdict text → VerdictWith (bytes ++ rest) true held verdict text
told bytes rest stage held (Yes steps roots) text (inl goes) same cut ends =
    let whole = turns_told.whole_told log_turns log_lawful bytes rest stage goes ends.0 in
    let b = begun (bytes ++ rest) stage whole.goes in
    whole_told b.0 (bytes ++ rest) held steps roots text b.1 (ap (λ (s : LogStage). s.due) b.3 ∙ whole.ended)
    (whole.goes.bytes_are ∙ ap text_of (sym b.2)) (same ∙ ap (λ (s : LogStage). s.state) (sym b.3))
    (ends.1 ∙ ap (λ (s : LogStage). s.state.steps) (sym b.3)) (ends.2 ∙ ap (λ (s : LogStage). s.state.roots) (sym b.3))
told bytes rest stage held (No line refusal) text (inl goes) same cut ends =
    let told = cut_told log_turns log_lawful bytes rest stage goes line refusal text cut ends in
    no_told (bytes ++ rest) true stage.state held line refusal text told.0 told.1 same
told bytes rest stage held verdict text (inr faulty) same cut ends =
    fault_told (bytes ++ rest) rest stage held verdict text (follows_more log_turns unread bytes rest stage faulty)
    (faults_at log_turns faulty.3 faulty.1 stage faulty.5) same ends true

-- All bytes have a verdict

whole_yes : (bytes : List ℕ) (beginning : Beginning) → IsAccepted beginning → due_after beginning ≡ Ended
    → bytes ≡ text_of (lines_of beginning) → (verdict : Verdict) × IsVerdict bytes verdict
whole_yes bytes (Whole rules_are roots steps) runs ended are = (Yes (length steps) (length roots), yes_of bytes rules_are roots steps are runs)
whole_yes bytes beginning runs ended are = let never : ⊥ = cc in absurd never

pub some_verdict : (bytes : List ℕ) → (verdict : Verdict) × IsVerdict bytes verdict
some_verdict bytes =
    elim (some_end log_turns log_lawful bytes) [
      | inl whole ↦
          let b = begun bytes whole.0 whole.1.goes in
          whole_yes bytes b.0 b.1 (ap (λ (s : LogStage). s.due) b.3 ∙ whole.1.ended) (whole.1.goes.bytes_are ∙ ap text_of (sym b.2))
      | inr fault ↦ (No fault.0 fault.1, first_fault_of bytes fault.0 fault.1 fault.2)
    ]
