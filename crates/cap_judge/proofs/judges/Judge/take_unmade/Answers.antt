use Rattle.std.proofs.Common.{[], ◌∷◌, ◌++◌, subst}
use Rattle.cap_log.specs.{declared.{kinds.Step.Step, lines.Line.Line}, Lines.{IsStepInRange, spelling}}
use Rattle.cap_log.proofs.SpellingLemmas.{IsLine-spelling}
use Rattle.cap_judge.proofs.TurnLemmas.{memory_only, memory_why}
use Rattle.cap_judge.proofs.judges.Judge.take_unmade.Goals as goal
use Rattle.cap_turns.specs.Readings.{IsNoLine}

pub take_ended_step-requires-clause-body : goal.take_ended_step-requires-clause-body
take_ended_step-requires-clause-body g c = (rw c.in-Some.is at c.requires.ends).0

pub take_ended_step-requires-clause-ends : goal.take_ended_step-requires-clause-ends
take_ended_step-requires-clause-ends g c =
    (c.args.step, (c.requires.range, c.write_line-length.ensures.line.written), (rw c.in-Some.is at c.requires.ends).1)

pub returns-in-Some-clause-taken : goal.returns-in-Some-clause-taken
returns-in-Some-clause-taken g c = rw c.write_line-length.ensures.line.written at c.take_ended_step.ensures.taken

pub returns-in-Some-clause-line : goal.returns-in-Some-clause-line
returns-in-Some-clause-line g c = memory_only c.take_ended_step.result _ c.take_ended_step.ensures.no_memory

pub returns-in-Some-clause-no_memory : goal.returns-in-Some-clause-no_memory
returns-in-Some-clause-no_memory g c = rw c.write_line-length.ensures.line.written at (memory_why c.take_ended_step.result _ c.take_ended_step.ensures.no_memory)

-- what a step spells is one line
step_is_line : (step : Step) → IsStepInRange step → IsNoLine (spelling (Line.Step step) ++ 10 ∷ []) → ⊥
step_is_line step range none = none.0 (spelling (Line.Step step)) (IsLine-spelling (Line.Step step) range [])

pub returns-in-None-clause-taken : goal.returns-in-None-clause-taken
returns-in-None-clause-taken g c = rw c.write_line-length.ensures.line.written at c.take_line.ensures.taken

pub returns-in-None-clause-line : goal.returns-in-None-clause-line
returns-in-None-clause-line g c = λ is.
    step_is_line _ c.requires.range (subst IsNoLine c.write_line-length.ensures.line.written (c.take_line.ensures.no_line.0 is))

pub returns-in-None-clause-no_memory : goal.returns-in-None-clause-no_memory
returns-in-None-clause-no_memory g c = rw c.write_line-length.ensures.line.written at c.take_line.ensures.no_memory
