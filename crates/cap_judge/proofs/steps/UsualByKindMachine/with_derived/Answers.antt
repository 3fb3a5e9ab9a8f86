use Rattle.std.proofs.Common.{rules}
use Rattle.cap_judge.proofs.TurnLemmas.{takes_ended}
use Rattle.cap_judge.proofs.steps.UsualByKindMachine.with_derived.Goals as goal

pub returns-in-Err : goal.returns-in-Err
returns-in-Err g c = record {
  done = takes_ended c.args.machine.now c.make.new.machine _ c.in-Some.rest.now (g.D.Operands.step c.in-Some.glanced.step)
      c.in-Err.end c.in-Some.ensures.some (search rules);
}
