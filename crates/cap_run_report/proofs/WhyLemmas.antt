-- The text of a judge of run logs that explains, by where it stopped.
use Rattle.std.proofs.Common.{◌≡◌, ℕ, Bool, false, List, [], ◌++◌, refl, sym, subst, Some, Ok, Err, Result}
use Rattle.cap_streams.specs.FaultLines.{bytes_of}
use Rattle.cap_run.specs.{declared.{asks.Asks.Asks, ends.RunRefusal.RunRefusal}, Run.Run}
use Rattle.cap_run_judge.specs.declared.faults.RefusedRunLine.{RefusedRunLine}
use Rattle.cap_run_judge.specs.{declared.verdict.RunVerdict.{RunVerdict, TheVariants.{Yes, No}}, Judgings.StopsIn}
use Rattle.cap_run_judge.specs.{OwnerLists.run_report_text, Reports.AreNumbered, VerdictLines.run_verdict_line, Readings.AnswerAtEnd}
use Rattle.cap_run_judge.specs.Turns.{RunStage, unread, run_turns}
use Rattle.cap_run_judge.proofs.EndLemmas.{all_ends, no_ends}
use Rattle.cap_run_report.specs.Answers.{ExplainsRun, ExplainsRunEnd, ExplainsRunSoFar, IsRunWhyText}
use Rattle.cap_run_report.specs.LineReports.{IsRunLineReport}
use Rattle.cap_turns.specs.{Readings.Follows, Turns.Refused}

pub told : (asks : Asks) (owners : Bool) (given : List ℕ) (ended : Bool) (run : Run) (fault : List ℕ) (verdict : RunVerdict) (said : List ℕ)
    → AreNumbered run → StopsIn asks given ended run fault verdict → IsRunWhyText owners run fault verdict said
    → ExplainsRun asks owners given ended verdict said
told asks owners given ended run fault (Yes steps roots objects) said are stops why = (run, (stops, are), why)
told asks owners given ended run fault (No line refusal) said are stops why = (run, fault, stops, why.0, why.1, why.2)

-- the text of a yes, and of a no
pub why_yes : (owners : Bool) (run : Run) (fault : List ℕ) (verdict : RunVerdict) (steps roots objects : ℕ) → verdict ≡ Yes steps roots objects
    → IsRunWhyText owners run fault verdict (run_report_text owners run verdict)
why_yes owners run fault verdict steps roots objects is =
    subst (λ (v : RunVerdict). IsRunWhyText owners run fault v (run_report_text owners run v)) (sym is) refl

pub why_no : (owners : Bool) (run : Run) (fault : List ℕ) (verdict : RunVerdict) (line : ℕ) (refusal : RunRefusal) (report : List ℕ)
    → verdict ≡ No line refusal → IsRunLineReport run line fault refusal report → IsRunWhyText owners run fault verdict (run_verdict_line verdict ++ report)
why_no owners run fault verdict line refusal report is by =
    subst (λ (v : RunVerdict). IsRunWhyText owners run fault v (run_verdict_line v ++ report)) (sym is) (report, by, refl)

-- the text of a faulty line that a judge was handed
pub so_far : (asks : Asks) (bytes : List ℕ) (stage : RunStage) (n : ℕ) (refusal : RunRefusal) (text report : List ℕ)
    → Follows run_turns (unread asks) bytes stage → stage.due ≡ Refused n refusal text → IsRunLineReport stage.state.run n text refusal report
    → ExplainsRunSoFar asks bytes (Some (No n refusal)) (run_verdict_line (No n refusal) ++ report)
so_far asks bytes stage n refusal text report follows is by =
    let ends = no_ends asks bytes stage n refusal text false follows is in
    (ends.0, (stage.state.run, text, ends.1, report, by, refl))

-- the text of a verdict on the lines that it was handed as a whole log
pub yes_at_end : (asks : Asks) (bytes : List ℕ) (stage : RunStage) (end : Result RunVerdict RefusedRunLine) (verdict : RunVerdict)
    → end ≡ Ok verdict → AreNumbered stage.state.run → Follows run_turns (unread asks) bytes stage → AnswerAtEnd stage [] end
    → ExplainsRunEnd asks bytes verdict (run_verdict_line verdict)
yes_at_end asks bytes stage end (Yes steps roots objects) is are follows ends =
    let told_is = all_ends asks bytes stage (Yes steps roots objects) [] follows (subst (AnswerAtEnd stage []) is ends) in
    (told_is.0, (stage.state.run, (told_is.1, are), refl))
yes_at_end asks bytes stage end (No line refusal) is are follows ends = absurd (subst (AnswerAtEnd stage []) is ends)

pub no_at_end : (asks : Asks) (bytes : List ℕ) (stage : RunStage) (end : Result RunVerdict RefusedRunLine) (fault : RefusedRunLine) (report : List ℕ)
    → end ≡ Err fault → Follows run_turns (unread asks) bytes stage → AnswerAtEnd stage [] end
    → IsRunLineReport stage.state.run fault.line (bytes_of fault.text) fault.refusal report
    → ExplainsRunEnd asks bytes (No fault.line fault.refusal) (run_verdict_line (No fault.line fault.refusal) ++ report)
no_at_end asks bytes stage end fault report is follows ends by =
    let told_is = all_ends asks bytes stage (No fault.line fault.refusal) (bytes_of fault.text) follows (subst (AnswerAtEnd stage []) is ends) in
    (told_is.0, (stage.state.run, bytes_of fault.text, told_is.1, report, by, refl))
