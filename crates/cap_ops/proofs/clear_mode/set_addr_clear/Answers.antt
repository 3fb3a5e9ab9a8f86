use Rattle.std.proofs.Common.{◌^◌, ◌<◌, arith}
use Rattle.cap_ops.specs.Operations.{set_addr_checks, set_addr_result}
use Rattle.cap_ops.proofs.{AddressLemmas.StaysWithin-set_addr, ClearLemmas.in_clear_mode}
use Rattle.cap_ops.proofs.clear_mode.set_addr_clear.Goals as goal

pub returns : goal.returns
returns c =
    let fits : c.args.address < 2 ^ 64 = omega arith in
    let told = in_clear_mode c.set_addr.result (set_addr_checks c.args.source c.args.address) (set_addr_result c.args.source c.args.address)
    _ c.or_cleared.result c.args.source c.set_addr.ensures.outcome c.moved.ensures c.or_cleared.ensures
    (λ free. StaysWithin-set_addr c.args.source c.args.address fits free) in
    record { result_is = told.0; strict = told.1; stays_within = told.2 }
