-- What was done for an order, told of an input whose bytes are known.
use Rattle.std.specs.Io.KnownBytes.{Consumes}
use Rattle.std.proofs.Common.{◌≡◌, ◌≤◌, ◌↔◌, ℕ, Bool, true, List, [], ◌++◌, Option, None, Some, option_map, Result, Ok, Err, refl}
use Rattle.std.proofs.Common.{sym, ap, subst, ◌∙◌, append-nil, arith}
use Rattle.cap_streams.specs.declared.judging.judge_faults.{JudgeFault.JudgeFault, JudgeToFault.JudgeToFault}
use Rattle.cap_streams.specs.declared.judging.judge_faults.JudgeToFault.TheVariants.{Pull, Push}
use Rattle.cap_heap.specs.HeapVerdicts.{IsHeapAnswerOf}
use Rattle.cap_judge.specs.{declared.verdict.Verdict.{Verdict, TheVariants.{Yes, No}}, Judgings.IsAnswerOf}
use Rattle.cap_judge.specs.{Judgings.IsVerdictOf, Reports.IsPushedFor, VerdictLines.verdict_status, Verdicts.IsVerdict}
use Rattle.cap_judge.proofs.{ReportLemmas.{nothing_given, tells_known, unanswered, verdict_few}, SourceLemmas.of_all}
use Rattle.cap_report.specs.{FaultReports.IsReport, Whys.Explains}
use Rattle.cap_program.specs.declared.faults.Fault.{Fault, TheVariants.{BadWords, Read}}
use Rattle.cap_program.specs.{Commands.IsMeant, Doings.IsDone}
use Rattle.cap_program.specs.{Faults.status_of, Judging.{ShowsVerdict, StopsJudging, judged}}
use Rattle.cap_program.proofs.Judgements.{known_of}
use Rattle.cap_run_judge.specs.Judgings.{IsAnswerOf as IsRunAnswerOf}
use Rattle.capdiag.specs.declared.orders.{Order.{Order, TheVariants.{Help, Version, Judge}}, Judging.{Judging, TheVariants.{Why, Heap, Run}}}
use Rattle.capdiag.specs.{Answers.{Fails, IsFaulty, Prints, Shows, order_meaning}, Forms.is_kept, Renderings.{Lacks, name_of}}
use Rattle.capdiag.specs.Judgings.{PrintsJudged, PrintsWhy, ShowsHeap, ShowsJudged, ShowsRun, ShowsWhy, StopsJudged, asks_of, kind_of}
use Rattle.capdiag.proofs.{HeapLemmas.{heap_few, heap_known, nothing_begins}, RenderingLemmas.{lacking_unfaulty, lacks_read, renders_few}}
use Rattle.capdiag.proofs.RunLogLemmas.{nothing_answered, run_few, run_known}

-- what was pushed for an answer is what was done for the order
pub judged_done : (tells : Verdict → List ℕ → Type 0) (given : List ℕ) (ended : Bool) (took : List ℕ → Type 0)
    (answer : Result Verdict JudgeToFault) → IsPushedFor tells given ended took answer
    → IsDone (ShowsVerdict verdict_status (IsAnswerOf given ended) tells) (StopsJudging (IsAnswerOf given true)) took (judged verdict_status answer)
judged_done tells given ended took (Ok verdict) p = (p.1, (verdict, p.0, p.2, refl), p.3)
judged_done tells given ended took (Err Pull) p = (unanswered given ended JudgeFault.Pull p.0, p.1)
judged_done tells given ended took (Err JudgeToFault.NoMemory) p = (unanswered given ended JudgeFault.NoMemory p.0, p.1)
judged_done tells given ended took (Err Push) p = (p.2, verdict_status p.0, (p.0, p.1, p.3, refl), p.4, p.5)

-- a text for all bytes given, with the report of a no
explains_known : (origins : Bool) (known given rest : List ℕ) (ended : Bool) (verdict : Verdict) (text : List ℕ) → known ≡ given ++ rest
    → (ended ≡ true → rest ≡ []) → IsVerdictOf given ended verdict → Explains origins given ended verdict text
    → Explains origins known true verdict text
explains_known origins known given rest ended (Yes steps roots) text are end is tells =
    tells_known origins known given rest ended (Yes steps roots) text are end is tells
explains_known origins known given rest ended (No line refusal) text are end is tells = (
  tells.0,
  λ more none.
      subst (λ (bytes : List ℕ). IsReport bytes line refusal tells.0)
      (sym are ∙ sym (append-nil known) ∙ ap (λ (m : List ℕ). known ++ m) (sym (none refl))) (tells.1 rest end),
  tells.2,
)

-- the verdict on the bytes given, and its text, are those of all bytes
verdict_known : (origins : Bool) (known given rest : List ℕ) (ended : Bool) (verdict : Verdict) (text : List ℕ) → known ≡ given ++ rest
    → (ended ≡ true → rest ≡ []) → IsAnswerOf given ended (Ok verdict) → Explains origins given ended verdict text
    → IsVerdict known verdict × Explains origins known true verdict text
verdict_known origins known given rest ended verdict text are end answer tells = (
  (of_all known given rest ended (Ok verdict) are end answer (λ e. cc)).0,
  explains_known origins known given rest ended verdict text are end answer.verdict tells,
)

-- what is shown of the bytes given is printed for all bytes
why_known : (origins : Bool) (known given rest : List ℕ) (ended : Bool) (text : List ℕ) (status : ℕ) → known ≡ given ++ rest
    → (ended ≡ true → rest ≡ []) → ShowsWhy origins given ended text status → PrintsWhy origins known text status
why_known origins known given rest ended text status are end shows =
    let both = verdict_known origins known given rest ended shows.0 text are end shows.1 shows.2 in
    (shows.0, both.0, both.1, shows.3)

-- what a judge shows of the bytes given it prints for all bytes
judged_known : (judging : Judging) (known given rest : List ℕ) (ended : Bool) (text : List ℕ) (status : ℕ) → known ≡ given ++ rest
    → (ended ≡ true → rest ≡ []) → ShowsJudged judging given ended text status → PrintsJudged judging known text status
judged_known (Why origins run) = why_known origins
judged_known (Heap report why) = heap_known report why
judged_known (Run run why told) = run_known run why told

-- the statuses of what is shown
judged_few : (judging : Judging) (given : List ℕ) (ended : Bool) (text : List ℕ) (status : ℕ) → ShowsJudged judging given ended text status → status ≤ 1
judged_few (Why origins run) given ended text status shows = let is = shows.3 in let at = verdict_few shows.0 in omega arith
judged_few (Heap report why) given ended text status shows = let is = shows.3 in let at = heap_few shows.0 in omega arith
judged_few (Run run why told) given ended text status shows = let is = shows.3 in let at = run_few shows.0 in omega arith

-- an order that judges is not at fault where there is no text
judged_unfaulty : (judging : Judging) (kept : Bool) (given : List ℕ) (fault : Fault)
    → Lacks kept (ShowsJudged judging given) (StopsJudged judging given) fault → (status_of fault ≡ 2) ↔ ⊥
judged_unfaulty (Why origins run) kept given = lacking_unfaulty kept (ShowsWhy origins given) (IsAnswerOf given true)
judged_unfaulty (Heap report why) kept given = lacking_unfaulty kept (ShowsHeap report why given) (IsHeapAnswerOf given true)
judged_unfaulty (Run run why told) kept given =
    lacking_unfaulty kept (ShowsRun run why told given) (IsRunAnswerOf (asks_of run) given true)

-- there is no text where the input fails
pub unread_lacks : (judging : Judging) (kept : Bool) → Lacks kept (ShowsJudged judging []) (StopsJudged judging []) Read
unread_lacks (Why origins run) kept = lacks_read kept (ShowsWhy origins []) (IsAnswerOf [] true) nothing_given
unread_lacks (Heap report why) kept =
    lacks_read kept (ShowsHeap report why []) (IsHeapAnswerOf [] true) (record { verdict = tt; optimal = tt; fault = nothing_begins })
unread_lacks (Run run why told) kept =
    let asks = asks_of run in lacks_read kept (ShowsRun run why told []) (IsRunAnswerOf asks [] true) (nothing_answered asks)

-- the text that belongs to the bytes given is printed for an input that gave them
shows_known : (order : Option Order) (left rest : Option (List ℕ)) (given : List ℕ) (ended : Bool) (text : List ℕ) (status : ℕ)
    → Consumes left rest given → (ended ≡ true → (xs : List ℕ) → rest ≡ Some xs → xs ≡ [])
    → Shows order given ended text status → Prints order left text status
shows_known None left rest given ended text status gives all shows = absurd shows
shows_known (Some Help) left rest given ended text status gives all shows = shows
shows_known (Some Version) left rest given ended text status gives all shows = shows
shows_known (Some (Judge judging form file files)) left rest given ended text status gives all shows =
    let k = known_of left rest given ended gives all in (
      k.bytes,
      k.are,
      (
        given,
        ended,
        (k.more, k.bytes_are, k.none_more),
        shows.0,
        shows.1,
        judged_known judging k.bytes given k.more ended shows.0 status k.bytes_are k.none_more shows.1,
        shows.2,
      ),
    )

-- the status of a text
few : (order : Option Order) (given : List ℕ) (ended : Bool) (text : List ℕ) (status : ℕ) → Shows order given ended text status
    → status ≤ 1
few None given ended text status shows = absurd shows
few (Some Help) given ended text status shows = let is = shows.1 in omega arith
few (Some Version) given ended text status shows = let is = shows.1 in omega arith
few (Some (Judge judging form file files)) given ended text status shows =
    renders_few form (name_of form.look files (option_map (λ it. it.now) file)) (kind_of judging) given (ShowsJudged judging given ended) text status
    (λ report is. judged_few judging given ended report status is) shows

-- an order with a text can be followed
unfaulty : (order : Option Order) (given : List ℕ) (ended : Bool) (text : List ℕ) (status : ℕ) → Shows order given ended text status
    → IsFaulty order → ⊥
unfaulty None given ended text status shows faulty = shows
unfaulty (Some order) given ended text status shows faulty = faulty

-- a fault has status 2 just where the order cannot be followed
asked_fault : (order : Option Order) (given : List ℕ) (fault : Fault) → Fails order given fault
    → (status_of fault ≡ 2) ↔ IsFaulty order
asked_fault None given BadWords fails = (λ two. tt, λ faulty. refl)
asked_fault None given fault fails = absurd fails
asked_fault (Some Help) given fault fails = absurd fails
asked_fault (Some Version) given fault fails = absurd fails
asked_fault (Some (Judge judging form file files)) given fault fails = judged_unfaulty judging (is_kept form (name_of form.look files (option_map (λ it. it.now) file))) given fault fails

-- the meaning of an order, its faults and its status agree
pub orders_meant : IsMeant order_meaning
orders_meant = record {
  known = shows_known;
  few = few;
  unfaulty = unfaulty;
  asked = asked_fault;
}
