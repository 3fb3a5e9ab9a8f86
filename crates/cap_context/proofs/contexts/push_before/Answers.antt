use Rattle.std.proofs.Common.{◌≡◌, ◌≢◌, ◌∙◌, [], length, rules, arith}
use Rattle.std.proofs.lemmas.List.{nil_from_length}
use Rattle.cap_context.proofs.ContextLemmas.{before_more, before_none}
use Rattle.cap_context.proofs.contexts.push_before.Goals as goal

pub loop-rest-preserved : goal.loop-rest-preserved
loop-rest-preserved c =
    let some : c.loop-rest.rest.now ≢ [] = search rules in
    let shorter = c.cut.ensures.shorter (search rules) in
    let fits = c.loop-rest.invariant.1 in (
      before_more c.loop-rest.at c.loop-rest.rest.now c.cut.result.0.now c.cut.result.1.now some c.cut.ensures.before c.cut.ensures.after
          c.args.count c.args.line c.loop-rest.report.items c.push_before_line.new.report.items c.in_ok-push_before_line.ensures.ok
          ∙ c.loop-rest.invariant.0,
      omega (arith, shorter, fits),
    )

pub returns : goal.returns
returns c =
    let empty : length c.loop-rest.rest.now ≡ 0 = search rules in
    record {
      ok = before_none c.args.count c.args.line c.loop-rest.at c.loop-rest.rest.now c.loop-rest.report.items
          (nil_from_length c.loop-rest.rest.now empty)
          ∙ c.loop-rest.invariant.0;
    }
