-- What a judge of run logs has read of the bytes that it was handed (this profile's own, as are all below).
use Rattle.std.specs.Prelude.{◌≡◌, ℕ, Bool, List, [], Option, None, Some, Result, Ok, Err}
use Rattle.cap_streams.specs.{declared.judging.judge_faults.JudgeFault.JudgeFault, FaultLines.bytes_of}
use Rattle.tagmem.specs.declared.store.TaggedStore.{Ghosts}
use Rattle.cap_run_log.specs.declared.lines.RunLine.{RunLine}
use Rattle.cap_turns.specs.{Turns.{Body, Due, Ended, First, IsAtFault, Refused, Second}, Readings.{Takes, due_at_end}}
use Rattle.cap_turns.specs.Readings as turns
use Rattle.cap_run.specs.declared.{asks.Asks.Asks, ends.{RunEnd.RunEnd, RunRefusal.RunRefusal}}
use Rattle.cap_run.specs.declared.ends.RunEnd.TheVariants as ends
use Rattle.cap_run.specs.{Machines.run_in, Run.Run}
use Rattle.cap_run_judge.specs.declared.faults.RefusedRunLine as faults
use Rattle.cap_run_judge.specs.{declared.judges.RunJudge.RunJudge, declared.verdict.RunVerdict.{RunVerdict, TheVariants.{Yes, No}}}
use Rattle.cap_run_judge.specs.{Judgings.{IsVerdictOf, StopsIn}, Turns.{RunStage, run_turns}}
use Rattle.cap_run_judge.specs.declared.judges.Due as code
use Rattle.cap_run_judge.specs.declared.judges.Due.TheVariants as dues

-- what the code's stage says
abbrev pub due_of : code.Due → Due RunRefusal
due_of dues.First = First
due_of dues.Second = Second
due_of dues.Body = Body
due_of dues.Ended = Ended
due_of (dues.Refused fault) = Refused fault.line fault.refusal (bytes_of fault.text)

-- how far a judge has read
abbrev pub stage_of : {M : Type 0} {ghosts : Ghosts M} → RunJudge M ghosts → RunStage
stage_of judge = record { state = record { asks = judge.machine.asks; run = run_in judge.machine }; due = due_of judge.due }

-- the refusal with which a line is not taken, or none where memory is wanted
abbrev pub end_of : RunEnd → Option RunRefusal
end_of (ends.Refused refusal) = Some refusal
end_of ends.NoMemory = None

-- why a line is not taken
abbrev pub EndsLine : RunStage → RunLine → RunEnd → Type 0
EndsLine stage line end = turns.EndsLine run_turns stage line (end_of end)

-- why what the bytes begin with is not taken
abbrev pub EndsBytes : RunStage → List ℕ → RunEnd → Type 0
EndsBytes stage bytes end = turns.EndsBytes run_turns stage bytes (end_of end)

-- an answer to a line: it leads to a stage; or it isn't taken, for this reason, and nothing has changed
abbrev pub AnswersLine : RunStage → RunLine → Result (Unit {0}) RunEnd → RunStage → Type 0
AnswersLine old line (Ok done) new = Takes run_turns old line new
AnswersLine old line (Err end) new = EndsLine old line end × (new ≡ old)

-- a step may come next, and its line isn't taken
abbrev pub IsUnmade : RunStage → RunLine → RunEnd → Type 0
IsUnmade stage line end = (stage.due ≡ Body) × EndsLine stage line end

-- which line is faulty, or that none is
abbrev pub IsFaultOf : Due RunRefusal → Option faults.RefusedRunLine → Type 0
IsFaultOf due (Some fault) = due ≡ Refused fault.line fault.refusal (bytes_of fault.text)
IsFaultOf due None = IsAtFault due → ⊥

-- the verdict on a log that ends there, and after a no the text of the faulty line
abbrev pub VerdictAtEnd : RunStage → List ℕ → RunVerdict → List ℕ → Type 0
VerdictAtEnd stage rest (Yes steps roots objects) text =
    (due_at_end run_turns stage.state stage.due rest ≡ Ended)
    × (steps ≡ stage.state.run.steps) × (roots ≡ stage.state.run.roots) × (objects ≡ stage.state.run.count)
VerdictAtEnd stage rest (No line refusal) text = due_at_end run_turns stage.state stage.due rest ≡ Refused line refusal text

-- a yes, or the faulty line
abbrev pub AnswerAtEnd : RunStage → List ℕ → Result RunVerdict faults.RefusedRunLine → Type 0
AnswerAtEnd stage rest (Ok (Yes steps roots objects)) = VerdictAtEnd stage rest (Yes steps roots objects) []
AnswerAtEnd stage rest (Ok (No line refusal)) = ⊥
AnswerAtEnd stage rest (Err fault) = VerdictAtEnd stage rest (No fault.line fault.refusal) (bytes_of fault.text)

-- a verdict on bytes whose source has ended, or a no that stands whatever follows them; with the run of the machine then,
-- and the text of the faulty line
abbrev pub VerdictWith : Asks → List ℕ → Bool → Run → RunVerdict → List ℕ → Type 0
VerdictWith asks bytes ended run verdict text = IsVerdictOf asks bytes ended verdict × StopsIn asks bytes ended run text verdict

-- a yes or a no, and after a no the text of the line at fault
abbrev pub IsAnswered : Result RunVerdict faults.RefusedRunLine → Result RunVerdict JudgeFault → List ℕ → Type 0
IsAnswered (Ok verdict) answer text = answer ≡ Ok verdict
IsAnswered (Err fault) answer text = (answer ≡ Ok (No fault.line fault.refusal)) × (text ≡ bytes_of fault.text)
