use Rattle.std.proofs.Common.{IfSome, subst, ◌∙◌}
use Rattle.cap_log.specs.Parts.{Begins}
use Rattle.cap_run_log.specs.{declared.lines.RunLine.RunLine, RunLines.{IsRunLineInRange, run_spelling}}
use Rattle.cap_run_judge.specs.{Readings.stage_of, Turns.{RunStage, run_turns}}
use Rattle.cap_run_judge.proofs.judges.RunJudge.take_object_step.Goals as goal
use Rattle.cap_turns.specs.Readings.{Takes}

pub returns-in-Some-take_step-clause-some : goal.returns-in-Some-take_step-clause-some
returns-in-Some-take_step-clause-some g c =
    subst (λ (s : RunStage). (line : RunLine) × Begins IsRunLineInRange run_spelling 10 c.args.bytes.now line c.in-Some-take_step.rest.now
    × Takes run_turns s line (stage_of c.take_step-2.new.self)) c.in_default.ensures.none c.in-Some-take_step.ensures.some

pub returns-clause-some : goal.returns-clause-some
returns-clause-some g c =
    subst (λ (s : RunStage). IfSome c.take_step-3.result (λ rest. (line : RunLine)
    × Begins IsRunLineInRange run_spelling 10 c.args.bytes.now line rest.now × Takes run_turns s line (stage_of c.take_step-3.new.self)))
    (c.in_default-take_step.ensures.none ∙ c.in_default.ensures.none) c.take_step-3.ensures.some
