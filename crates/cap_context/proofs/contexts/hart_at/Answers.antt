use Rattle.std.proofs.Common.{◌≡◌, ◌≢◌, ◌∙◌, [], length, rules, arith}
use Rattle.std.proofs.lemmas.List.{nil_from_length}
use Rattle.cap_context.specs.Contexts.{hart_step}
use Rattle.cap_context.proofs.ContextLemmas.{fold_more, fold_none}
use Rattle.cap_context.proofs.contexts.hart_at.Goals as goal

pub loop-rest-preserved : goal.loop-rest-preserved
loop-rest-preserved c =
    let some : c.loop-rest.rest.now ≢ [] = search rules in
    let shorter = c.cut.ensures.shorter (search rules) in
    let fits = c.loop-rest.invariant.1 in (
      fold_more c.loop-rest.at c.loop-rest.rest.now c.cut.result.0.now c.cut.result.1.now some c.cut.ensures.before c.cut.ensures.after
          (hart_step c.args.line) c.loop-rest.hart.now c.hart_step-hart.result.now c.hart_step-hart.ensures.value
          ∙ c.loop-rest.invariant.0,
      omega (arith, shorter, fits),
    )

pub returns : goal.returns
returns c =
    let empty : length c.loop-rest.rest.now ≡ 0 = search rules in
    record {
      value = fold_none (hart_step c.args.line) c.loop-rest.hart.now c.loop-rest.at c.loop-rest.rest.now
          (nil_from_length c.loop-rest.rest.now empty)
          ∙ c.loop-rest.invariant.0;
    }
