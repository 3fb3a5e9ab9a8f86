use Rattle.cap_run_log.specs.declared.{heads.RunHead.RunHead, lines.{RunLine.RunLine, RunStep.RunStep}}
use Rattle.cap_run_log.proofs.ExchangeLemmas.{none_behind}
use Rattle.cap_run_log.proofs.readers.take_exchange.Goals as goal

pub returns-clause-none : goal.returns-clause-none
returns-clause-none c =
    none_behind c.take_exchanged.result (λ it. RunLine.Run (RunStep.Exchange it)) RunHead.Exchange c.args.bytes.now c.in-Some.operands.now
    c.in-Some.ensures.some c.take_exchanged.ensures.none
