-- What a judge of run logs that explains a no writes (this profile's own).
use Rattle.std.specs.Prelude.{◌≡◌, ℕ, Bool, true, false, List, [], ◌++◌, Option, None, Some}
use Rattle.cap_run.specs.{declared.asks.Asks.Asks, Run.Run}
use Rattle.cap_run_judge.specs.{declared.verdict.RunVerdict.{RunVerdict, TheVariants.{Yes, No}}, Judgings.{IsVerdictOf, StopsWithRun}}
use Rattle.cap_run_judge.specs.{OwnerLists.run_report_text, Reports.TellsRun, Turns.{RunStage, run_turns, unread}}
use Rattle.cap_run_judge.specs.{VerdictLines.run_verdict_line, Verdicts.IsRunVerdict}
use Rattle.cap_run_report.specs.LineReports.{IsRunLineReport}
use Rattle.cap_turns.specs.Turns.{Goes}

-- the text that belongs to a verdict on bytes: after a yes that of a judge that may be asked for owners, and after a no the
-- verdict's line and the report of the first fault, by the run before it
abbrev pub ExplainsRun : Asks → Bool → List ℕ → Bool → RunVerdict → List ℕ → Type 0
ExplainsRun asks owners bytes ended (Yes steps roots objects) text = TellsRun asks owners bytes ended (Yes steps roots objects) text
ExplainsRun asks owners bytes ended (No line refusal) text =
    (run : Run) × (fault : List ℕ) × StopsWithRun asks bytes ended run line fault
    × (report : List ℕ) × IsRunLineReport run line fault refusal report × (text ≡ run_verdict_line (No line refusal) ++ report)

-- the text of a verdict by the run of a machine and the line that was refused
abbrev pub IsRunWhyText : Bool → Run → List ℕ → RunVerdict → List ℕ → Type 0
IsRunWhyText owners run fault (Yes steps roots objects) text = text ≡ run_report_text owners run (Yes steps roots objects)
IsRunWhyText owners run fault (No line refusal) text =
    (report : List ℕ) × IsRunLineReport run line fault refusal report × (text ≡ run_verdict_line (No line refusal) ++ report)

-- the text of how a run log stands that begins with these bytes: none while no line of theirs is faulty, and otherwise that
-- of a judge that explains the no, which stands whatever bytes follow
abbrev pub ExplainsRunSoFar : Asks → List ℕ → Option RunVerdict → List ℕ → Type 0
ExplainsRunSoFar asks bytes None text = ((stage : RunStage) × Goes run_turns (unread asks) bytes stage) × (text ≡ [])
ExplainsRunSoFar asks bytes (Some verdict) text = IsVerdictOf asks bytes false verdict × ExplainsRun asks false bytes false verdict text

-- the text of the verdict on these bytes as a whole run log, as a judge that explains writes it without owners
abbrev pub ExplainsRunEnd : Asks → List ℕ → RunVerdict → List ℕ → Type 0
ExplainsRunEnd asks bytes verdict text = IsRunVerdict asks bytes verdict × ExplainsRun asks false bytes true verdict text
