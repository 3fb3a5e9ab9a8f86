-- Laws of the answer of a judge of run logs.
use Rattle.std.proofs.lemmas.List.{append_assoc, Elements.All-nil}
use Rattle.std.proofs.Common.{◌≡◌, ◌≢◌, ◌≤◌, ℕ, zero, suc, Bool, true, false, List, [], ◌∷◌, ◌++◌, take, Result, Ok, Err, refl, sym, ap, subst, ◌∙◌, append-nil, arith}
use Rattle.cap_streams.specs.declared.judging.judge_faults.JudgeFault.{JudgeFault}
use Rattle.cap_streams.specs.declared.judging.judge_faults.JudgeToFault.{JudgeToFault, TheVariants.{Pull, NoMemory, Push}}
use Rattle.cap_run.specs.{declared.{asks.Asks.Asks, ends.RunRefusal.RunRefusal}, Run.Run}
use Rattle.cap_run_judge.specs.declared.verdict.RunVerdict.{RunVerdict, TheVariants.{Yes, No}}
use Rattle.cap_turns.{specs.Verdicts.IsFirstFault, proofs.LineLemmas.{ended_front, front_more}}
use Rattle.cap_run_judge.specs.{Judgings.{IsAnswerOf, StopsWithRun}, Reports.IsRunPushed, Turns.{run_turns, unread}, VerdictLines.run_verdict_status}
use Rattle.cap_run_judge.proofs.GuardLemmas.{run_guarded}
use Rattle.cap_program.specs.{Doings.IsDone, Judging.{StopsJudging, judged}}
use Rattle.capdiag.specs.declared.orders.RunAsked.{RunAsked}
use Rattle.capdiag.specs.Judgings.{ShowsRun, TellsAsked, TellsReport, asked_after, asks_of}

-- what was pushed for an answer is what was done for the order
pub run_done : (run : RunAsked) (why told : Bool) (given : List ℕ) (ended : Bool) (took : List ℕ → Type 0) (answer : Result RunVerdict JudgeToFault)
    → IsRunPushed (asks_of run) (TellsAsked run why told given ended) given ended took answer
    → IsDone (ShowsRun run why told given ended) (StopsJudging (IsAnswerOf (asks_of run) given true)) took (judged run_verdict_status answer)
run_done run why told given ended took (Ok verdict) p = (p.1, (verdict, p.0, p.2, refl), p.3)
run_done run why told given ended took (Err Pull) p = (record { verdict = tt; guarded = run_guarded (asks_of run) given; fault = p.0.fault }, p.1)
run_done run why told given ended took (Err NoMemory) p = (record { verdict = tt; guarded = run_guarded (asks_of run) given; fault = p.0.fault }, p.1)
run_done run why told given ended took (Err Push) p = (p.2, run_verdict_status p.0, (p.0, p.1, p.3, refl), p.4, p.5)

-- a beginning of some bytes is one of these with more after them
cut_within : (n : ℕ) (xs ys : List ℕ) → (m : ℕ) × (take m (xs ++ ys) ≡ take n xs)
cut_within zero xs ys = (zero, refl)
cut_within (suc n) [] ys = (zero, refl)
cut_within (suc n) (x ∷ xs) ys = let more = cut_within n xs ys in (suc more.0, ap (λ (rest : List ℕ). x ∷ rest) more.1)

-- bytes, and a beginning of those after them
cut_behind : (xs ys : List ℕ) (n : ℕ) → (m : ℕ) × (take m (xs ++ ys) ≡ xs ++ take n ys)
cut_behind [] ys n = (n, refl)
cut_behind (x ∷ xs) ys n = let more = cut_behind xs ys n in (suc more.0, ap (λ (rest : List ℕ). x ∷ rest) more.1)

-- what was asked is pushed after the report
module _ (run : RunAsked) (why told : Bool) (given : List ℕ) (ended : Bool) (first second took : List ℕ → Type 0)
    (joined : (xs ys : List ℕ) → first xs → second ys → took (xs ++ ys)) (verdict : RunVerdict)
    (pushed : IsRunPushed (asks_of run) (TellsReport run why given ended) given ended first (Ok verdict)) where
  pub asked_pushed : second (asked_after told run verdict)
      → IsRunPushed (asks_of run) (TellsAsked run why told given ended) given ended took (Ok verdict)
  asked_pushed more =
      (pushed.0, pushed.1 ++ asked_after told run verdict, (pushed.1, pushed.2, refl), joined pushed.1 (asked_after told run verdict) pushed.3 more)

  pub asked_cut : ((n : ℕ) × second (take n (asked_after told run verdict)))
      → IsRunPushed (asks_of run) (TellsAsked run why told given ended) given ended took (Err Push)
  asked_cut part =
      let asked = asked_after told run verdict in
      let behind = cut_behind pushed.1 asked part.0 in (
        verdict,
        pushed.0,
        pushed.1 ++ asked,
        (pushed.1, pushed.2, refl),
        behind.0,
        subst took (sym behind.1) (joined pushed.1 (take part.0 asked) pushed.3 part.1),
      )

-- without a verdict what was asked isn't told
pub asked_fault : (run : RunAsked) (why told : Bool) (given : List ℕ) (ended : Bool) (took : List ℕ → Type 0) (fault : JudgeToFault)
    → IsRunPushed (asks_of run) (TellsReport run why given ended) given ended took (Err fault)
    → IsRunPushed (asks_of run) (TellsAsked run why told given ended) given ended took (Err fault)
asked_fault run why told given ended took Pull p = p
asked_fault run why told given ended took NoMemory p = p
asked_fault run why told given ended took Push p =
    let asked = asked_after told run p.0 in
    let within = cut_within p.4 p.2 asked in
    (p.0, p.1, p.2 ++ asked, (p.2, p.3, refl), within.0, subst took (sym within.1) p.5)

-- where a judge stopped in the bytes given, whatever follows them, it stopped in all bytes
stops_known : (asks : Asks) (known given rest : List ℕ) (run : Run) (line : ℕ) (text : List ℕ) → known ≡ given ++ rest
    → StopsWithRun asks given false run line text → StopsWithRun asks known true run line text
stops_known asks known given rest run line text are (stops, run_is) = (
  record {
    stage = stops.stage;
    rest = stops.rest ++ rest;
    behind = record {
      front = stops.behind.front;
      bytes_are = are ∙ ap (λ (bytes : List ℕ). bytes ++ rest) stops.behind.bytes_are ∙ append_assoc stops.behind.front stops.rest rest;
      goes = stops.behind.goes;
    };
    line_is = stops.line_is;
    front = ended_front (stops.rest ++ rest) true text (front_more stops.rest rest text stops.front);
  },
  run_is,
)

-- a no on the bytes given, whatever follows them, is one on all bytes
answer_known : (asks : Asks) (known given rest : List ℕ) (line : ℕ) (refusal : RunRefusal) → known ≡ given ++ rest
    → IsAnswerOf asks given false (Ok (No line refusal)) → IsAnswerOf asks known true (Ok (No line refusal))
answer_known asks known given rest line refusal are answer = record {
  verdict = subst (λ (bytes : List ℕ). IsFirstFault run_turns (unread asks) bytes line refusal) (sym are) (answer.verdict rest);
  guarded = run_guarded asks known;
  fault = tt;
}

-- and so is its report
report_known : (run : RunAsked) (why : Bool) (known given rest : List ℕ) (line : ℕ) (refusal : RunRefusal) (text : List ℕ) → known ≡ given ++ rest
    → TellsReport run why given false (No line refusal) text → TellsReport run why known true (No line refusal) text
report_known run true known given rest line refusal text are tells =
    (tells.0, tells.1, stops_known (asks_of run) known given rest tells.0 line tells.1 are tells.2, tells.3, tells.4, tells.5)
report_known run false known given rest line refusal text are tells = (tells.0, tt, tells.2)

no_known : (run : RunAsked) (why told : Bool) (known given rest : List ℕ) (verdict : RunVerdict) (text : List ℕ) → known ≡ given ++ rest
    → IsAnswerOf (asks_of run) given false (Ok verdict) → TellsAsked run why told given false verdict text
    → IsAnswerOf (asks_of run) known true (Ok verdict) × TellsAsked run why told known true verdict text
no_known run why told known given rest (Yes steps roots objects) text are answer tells = absurd answer.verdict
no_known run why told known given rest (No line refusal) text are answer tells = (
  answer_known (asks_of run) known given rest line refusal are answer,
  (tells.0, report_known run why known given rest line refusal tells.0 are tells.1, tells.2),
)

-- what is shown of the bytes given is shown of all bytes
pub run_known : (run : RunAsked) (why told : Bool) (known given rest : List ℕ) (ended : Bool) (text : List ℕ) (status : ℕ) → known ≡ given ++ rest
    → (ended ≡ true → rest ≡ []) → ShowsRun run why told given ended text status → ShowsRun run why told known true text status
run_known run why told known given rest true text status are end shows =
    let same = are ∙ ap (λ (r : List ℕ). given ++ r) (end refl) ∙ append-nil given in
    subst (λ (bytes : List ℕ). ShowsRun run why told bytes true text status) (sym same) shows
run_known run why told known given rest false text status are end shows =
    let both = no_known run why told known given rest shows.0 text are shows.1 shows.2 in
    (shows.0, both.0, both.1, shows.3)

pub run_few : (verdict : RunVerdict) → run_verdict_status verdict ≤ 1
run_few (Yes steps roots objects) = omega arith
run_few (No line refusal) = omega arith

-- no bytes are the beginning of a run log
pub nothing_answered : (asks : Asks) → IsAnswerOf asks [] true (Err JudgeFault.Pull)
nothing_answered asks = record {
  verdict = tt;
  guarded = run_guarded asks [];
  fault = record {
    stage = unread asks;
    rest = [];
    behind = record { front = []; bytes_are = refl; goes = record { lines = []; in_range = tt; bytes_are = refl; reads = refl } };
    cut = (omega arith, All-nil (λ b. b ≢ 10));
  };
}
