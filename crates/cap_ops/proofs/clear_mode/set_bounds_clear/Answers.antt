use Rattle.std.proofs.Common.{◌^◌, ◌<◌, arith}
use Rattle.cap_ops.specs.Operations.{set_bounds_checks, set_bounds_result}
use Rattle.cap_ops.proofs.{ClearLemmas.{in_clear_mode, untagged_where_beyond}, NarrowingLemmas.StaysWithin-set_bounds}
use Rattle.cap_ops.proofs.clear_mode.set_bounds_clear.Goals as goal

pub returns : goal.returns
returns c =
    let fits : c.args.length < 2 ^ 64 = omega arith in
    let told = in_clear_mode c.set_bounds.result (set_bounds_checks c.args.source c.args.length c.args.exact)
    (set_bounds_result c.args.source c.args.length) _ c.or_cleared.result c.args.source c.set_bounds.ensures.outcome c.narrowed.ensures c.or_cleared.ensures
    (λ free. StaysWithin-set_bounds c.args.source c.args.length c.args.exact fits free) in
    record {
      result_is = told.0;
      strict = told.1;
      stays_within = told.2;
      escape = untagged_where_beyond c.args.source c.args.length c.args.exact c.or_cleared.result fits told.0;
    }
