use Rattle.cap_run_log.proofs.ExchangeLemmas.{no_step_behind}
use Rattle.cap_run_log.proofs.readers.take_step.Goals as goal

pub returns-clause-none : goal.returns-clause-none
returns-clause-none c =
    no_step_behind c.take_step_operands.result c.args.head c.args.bytes.now c.in-Some.operands.now c.in-Some.ensures.some c.take_step_operands.ensures.none
