-- The report of a first fault: it is that of the place where the judge stopped.
use Rattle.std.proofs.Common.{◌≡◌, ℕ, Bool, true, false, List, [], ◌++◌, refl, sym, ap, subst, Ok, Err, Result, OnOk}
use Rattle.std.proofs.Common.{IfOk, OnErr, Some, if◌then◌else◌}
use Rattle.cap_ops.specs.declared.refusal.Refusal.{Refusal}
use Rattle.cap_streams.specs.{declared.judging.judge_faults.JudgeFault.JudgeFault, FaultLines.bytes_of, Front.IsCut}
use Rattle.cap_machine.specs.{Accounts.Account, Helds.{Held, account_of}}
use Rattle.cap_judge.specs.{declared.faults.RefusedLine.RefusedLine, declared.judges.Due.Due}
use Rattle.cap_judge.specs.declared.verdict.Verdict.{Verdict, TheVariants.{Yes, No}}
use Rattle.cap_judge.specs.{Judgings.{IsVerdictOf, IsAnswerOf, LeadsAfter, StopsBefore, StopsIn}, OriginLists.report_text}
use Rattle.cap_judge.specs.{Readings.{AnswerAtEnd, VerdictWith, IsFaultOf, at, due_of}, Reports.Tells, Turns.{unread, log_turns}}
use Rattle.cap_judge.specs.VerdictLines.{verdict_line}
use Rattle.cap_judge.proofs.{FaultPlaces.at_fault, ReportLemmas.{IsHeld, tells}, TurnLaws.{fault_ends, told as told_at_end}}
use Rattle.cap_report.specs.FaultReports.{IsLineReport, IsReport}
use Rattle.cap_report.specs.Whys.{Explains, ExplainsEnd, ExplainsSoFar, IsWhyText}
use Rattle.cap_turns.specs.Readings.{Follows}

-- where a judge stopped, the report of that line is the report of the first fault, whatever bytes follow where the source has not ended
pub reported : (given : List ℕ) (ended : Bool) (held : Held) (line : ℕ) (refusal : Refusal) (text report : List ℕ)
    → IsVerdictOf given ended (No line refusal) → StopsBefore given ended held line text
    → IsLineReport (account_of held) text refusal report
    → (more : List ℕ) → (ended ≡ true → more ≡ []) → IsReport (given ++ more) line refusal report
reported given ended held line refusal text report verdict stops told more end =
    let place = at_fault given ended held line refusal text verdict stops more end in
    record {
      fault = place.fault;
      text = text;
      front = place.front;
      told = subst (λ (a : Account). IsLineReport a text refusal report) place.account_is told;
    }

-- the text of a judge that explains, by where it stopped
told : (origins : Bool) (given : List ℕ) (ended : Bool) (held : Held) (text : List ℕ) (verdict : Verdict) (said : List ℕ) → IsHeld held
    → IsAnswerOf given ended (Ok verdict) → LeadsAfter given held verdict → StopsIn given ended held text verdict
    → IsWhyText origins held text verdict said → Explains origins given ended verdict said
told true given ended held text (Yes steps roots) said is answer to stops why =
    subst (Tells true given (Yes steps roots)) (sym why) (tells given held (Yes steps roots) is to)
told false given ended held text (Yes steps roots) said is answer to stops why = why
told origins given ended held text (No line refusal) said is answer to stops why =
    (why.0, reported given ended held line refusal text why.0 answer.verdict stops why.1, why.2)

-- the same, by what the judge answered
pub told_of : (origins : Bool) (given : List ℕ) (ended : Bool) (held : Held) (text : List ℕ) (answer : Result Verdict JudgeFault)
    (verdict : Verdict) (said : List ℕ) → answer ≡ Ok verdict → IsHeld held → IsAnswerOf given ended answer
    → IfOk answer (LeadsAfter given held) → IfOk answer (StopsIn given ended held text) → IsWhyText origins held text verdict said
    → IsAnswerOf given ended (Ok verdict) × Explains origins given ended verdict said
told_of origins given ended held text answer verdict said was is answers leads stops why =
    let all = subst (λ r. IsAnswerOf given ended r × IfOk r (LeadsAfter given held) × IfOk r (StopsIn given ended held text)) was
    (answers, leads, stops) in
    (all.0, told origins given ended held text verdict said is all.0 all.1 all.2 why)

-- what follows at an `Ok`, and at an `Err`
pub on_ok : {T E P X : Type 0} (r : Result T E) → (P → X) → OnOk r P → OnOk r X
on_ok (Ok v) f h = f h
on_ok (Err e) f h = tt

pub on_err : {T E P X : Type 0} (r : Result T E) → (P → X) → OnErr r P → OnErr r X
on_err (Ok v) f h = tt
on_err (Err e) f h = f h

-- the text of a yes, and of a no
pub why_yes : (origins now : Bool) (held : Held) (text : List ℕ) (verdict : Verdict) (steps roots : ℕ)
    → verdict ≡ Yes steps roots → origins ≡ now
    → IsWhyText origins held text verdict (if now then report_text held verdict else verdict_line verdict)
why_yes origins now held text verdict steps roots is asked =
    subst (λ (v : Verdict). IsWhyText origins held text v (if now then report_text held v else verdict_line v)) (sym is)
    (ap (λ (b : Bool). if b then report_text held (Yes steps roots) else verdict_line (Yes steps roots)) (sym asked))

pub why_no : (origins : Bool) (held : Held) (text : List ℕ) (verdict : Verdict) (line : ℕ) (refusal : Refusal)
    (report : List ℕ) → verdict ≡ No line refusal
    → IsLineReport (account_of held) text refusal report → IsWhyText origins held text verdict (verdict_line verdict ++ report)
why_no origins held text verdict line refusal report is by =
    subst (λ (v : Verdict). IsWhyText origins held text v (verdict_line v ++ report)) (sym is) (report, by, refl)

-- the text of a faulty line
no_text : (bytes : List ℕ) (ended : Bool) (held : Held) (line : ℕ) (refusal : Refusal) (text report : List ℕ)
    → VerdictWith bytes ended held (No line refusal) text → IsLineReport (account_of held) text refusal report
    → IsVerdictOf bytes ended (No line refusal) × Explains false bytes ended (No line refusal) (verdict_line (No line refusal) ++ report)
no_text bytes ended held line refusal text report ends told =
    (ends.0, (report, reported bytes ended held line refusal text report ends.0 ends.2 told, refl))

-- of one that a judge was handed
pub so_far : (bytes : List ℕ) (stage : Due) (held : Held) (fault : RefusedLine) (report : List ℕ) → Follows log_turns unread bytes (at stage held)
    → IsFaultOf (due_of stage) (Some fault) → IsLineReport (account_of held) (bytes_of fault.text) fault.refusal report
    → ExplainsSoFar bytes (Some (No fault.line fault.refusal)) (verdict_line (No fault.line fault.refusal) ++ report)
so_far bytes stage held fault report follows is told =
    no_text bytes false held fault.line fault.refusal (bytes_of fault.text) report
    (fault_ends bytes (at stage held) fault.line fault.refusal (bytes_of fault.text) follows is held refl false) told

-- the text of a verdict on bytes that end after lines that a judge was handed
pub yes_at_end : (bytes rest : List ℕ) (stage : Due) (held : Held) (end : Result Verdict RefusedLine) (verdict : Verdict) → end ≡ Ok verdict
    → Follows log_turns unread bytes (at stage held) → IsCut rest → AnswerAtEnd (at stage held) rest end
    → ExplainsEnd (bytes ++ rest) verdict (verdict_line verdict)
yes_at_end bytes rest stage held end (Yes steps roots) is follows cut ends =
    ((told_at_end bytes rest (at stage held) held (Yes steps roots) [] follows refl cut (subst (AnswerAtEnd (at stage held) rest) is ends)).0, refl)
yes_at_end bytes rest stage held end (No line refusal) is follows cut ends = absurd (subst (AnswerAtEnd (at stage held) rest) is ends)

pub no_at_end : (bytes rest : List ℕ) (stage : Due) (held : Held) (end : Result Verdict RefusedLine) (fault : RefusedLine) (report : List ℕ)
    → end ≡ Err fault → Follows log_turns unread bytes (at stage held) → IsCut rest → AnswerAtEnd (at stage held) rest end
    → IsLineReport (account_of held) (bytes_of fault.text) fault.refusal report
    → ExplainsEnd (bytes ++ rest) (No fault.line fault.refusal) (verdict_line (No fault.line fault.refusal) ++ report)
no_at_end bytes rest stage held end fault report is follows cut ends told =
    let no = No fault.line fault.refusal in
    no_text (bytes ++ rest) true held fault.line fault.refusal (bytes_of fault.text) report
    (told_at_end bytes rest (at stage held) held no (bytes_of fault.text) follows refl cut (subst (AnswerAtEnd (at stage held) rest) is ends)) told
