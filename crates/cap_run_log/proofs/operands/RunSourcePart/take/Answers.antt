use Rattle.cap_run_log.proofs.PartLemmas.{no_register_at}
use Rattle.cap_run_log.proofs.operands.RunSourcePart.take.Goals as goal

pub returns-in_default-take-clause-none : goal.returns-in_default-take-clause-none
returns-in_default-take-clause-none c =
    no_register_at 0 c.args.end c.args.bytes.now c.in_default.ensures.none c.in_default-take.ensures.none
