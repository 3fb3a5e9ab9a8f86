use Rattle.std.proofs.Common.{IfSome, subst, sym}
use Rattle.cap_run_log.specs.declared.lines.RunLine.TheVariants as line
use Rattle.cap_run_judge.specs.{Readings.IsUnmade, Turns.RunStage}
use Rattle.capcheck_judge.proofs.run_steps.take_step_of_kind.Goals as goal

pub take_unmade_step-requires : goal.take_unmade_step-requires
take_unmade_step-requires g c = record {
  ends = subst (λ (s : RunStage). IfSome c.in-Err.end (IsUnmade s (line.Step (g.I.Operands.step c.args.step)))) (sym c.in-Err.ensures.same)
      c.in-Err.ensures.unmade;
}
