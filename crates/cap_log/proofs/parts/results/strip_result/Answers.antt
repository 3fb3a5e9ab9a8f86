use Rattle.std.proofs.Common.{◌∙◌}
use Rattle.cap_log.proofs.{Cuts.rejoined, ResultLemmas.marked}
use Rattle.cap_log.proofs.parts.results.strip_result.Goals as goal

pub returns-then-last-eq10 : goal.returns-then-last-eq10
returns-then-last-eq10 c = record {
  some = marked c.args.recorded.tag _ _ _ _ 10 c.args.recorded.word.0 c.args.bytes.now _ _ _ c.in_ok-last.rest.now
      (c.are_four.ensures.same.0 c.if-not-are_four.false ∙ c.result_mark.ensures)
      (rejoined 4 _ _ _ c.in_ok-first.ensures.cases.0 c.in_ok-first.ensures.cases.1)
      (rejoined 16 _ _ _ c.in_ok-high.ensures.cases.0 c.in_ok-high.ensures.cases.1)
      (rejoined 16 _ _ _ c.in_ok-low.ensures.cases.0 c.in_ok-low.ensures.cases.1)
      c.in_ok-last.ensures.cases.0 c.if-last-eq10.true
      (c.is_same.ensures.same c.if-not-is_same.false ∙ c.number_text.ensures.digits)
      (c.is_same-2.ensures.same c.if-not-is_same-2.false ∙ c.number_text-2.ensures.digits);
}
