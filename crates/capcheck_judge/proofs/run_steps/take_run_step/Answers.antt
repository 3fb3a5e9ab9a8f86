use Rattle.std.proofs.Common.{IfSome, subst, sym}
use Rattle.cap_run_log.specs.declared.lines.RunLine.TheVariants as line
use Rattle.cap_run_judge.specs.{Readings.IsUnmade, Turns.RunStage}
use Rattle.capcheck_judge.proofs.run_steps.take_run_step.Goals as goal

pub take_unmade_line-requires-clause-ends : goal.take_unmade_line-requires-clause-ends
take_unmade_line-requires-clause-ends c =
    subst (λ (s : RunStage). IfSome c.in-Err.end (IsUnmade s (line.Run c.args.step))) (sym c.in-Err.ensures.same) c.in-Err.ensures.unmade
