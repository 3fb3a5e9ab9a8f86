use Rattle.std.proofs.Common.{codes}
use Rattle.cap_run_log.proofs.ExchangeLemmas.{front_is, text_then}
use Rattle.cap_run_log.proofs.heads.strip_exchange.Goals as goal

pub returns-then-are_eight-clause-some : goal.returns-then-are_eight-clause-some
returns-then-are_eight-clause-some c =
    let front = c.in-Some.ensures.cases in
    text_then c.strip_word.result _ _ (codes "exchange") _
    (front_is 8 _ _ _ (codes "exchange") front.0 front.1 (c.are_eight.ensures.same.0 c.if-are_eight.true)) c.strip_word.ensures.some
