use Rattle.std.proofs.Common.{◌++◌, ℕ, List, ap, codes, ◌∙◌}
use Rattle.cap_run_log.proofs.ExchangeLemmas.{front_is, text_then}
use Rattle.cap_run_log.proofs.heads.strip_derive.Goals as goal

pub returns-then-are_two-clause-some : goal.returns-then-are_two-clause-some
returns-then-are_two-clause-some c =
    let front = c.in-Some.ensures.cases in
    let middle = c.in-Some-split_first_chunk.ensures.cases in
    text_then c.strip_word.result _ _ (codes "derive") _
    (front_is 4 _ _ _ (codes "deri") front.0 front.1 (c.are_four.ensures.same.0 c.if-not-are_four.false)
    ∙ ap (λ (bs : List ℕ). codes "deri" ++ bs)
    (front_is 2 _ _ _ (codes "ve") middle.0 middle.1 (c.are_two.ensures.same.0 c.if-are_two.true)))
    c.strip_word.ensures.some
