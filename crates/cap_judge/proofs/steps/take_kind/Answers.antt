use Rattle.std.proofs.Common.{rules}
use Rattle.cap_judge.proofs.TurnLemmas.{takes_ended}
use Rattle.cap_judge.proofs.steps.take_kind.Goals as goal

pub returns-in-Err : goal.returns-in-Err
returns-in-Err g c = takes_ended c.args.machine.now c.perform_by.new.machine _ c.in-Some.rest.now (g.I.Operands.step c.in-Some.step)
    c.in-Err.end c.in-Some.ensures.some (search rules)
