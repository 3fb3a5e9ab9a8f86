use Rattle.cap_run_log.specs.declared.{heads.RunHead.RunHead, lines.{RunLine.RunLine, RunStep.RunStep}}
use Rattle.cap_run_log.proofs.ExchangeLemmas.{none_behind}
use Rattle.cap_run_log.proofs.readers.take_derive.Goals as goal

pub returns-clause-none : goal.returns-clause-none
returns-clause-none c =
    none_behind c.take_derived.result (λ it. RunLine.Run (RunStep.Derive it)) RunHead.Derive c.args.bytes.now c.in-Some.operands.now
    c.in-Some.ensures.some c.take_derived.ensures.none
