use Rattle.cap_ops.specs.Operations.{seal_checks, seal_result}
use Rattle.cap_ops.proofs.{ClearLemmas.in_clear_mode, Derivations.StaysWithin-seal}
use Rattle.cap_ops.proofs.clear_mode.seal_clear.Goals as goal

pub returns : goal.returns
returns c =
    let told = in_clear_mode c.seal.result (seal_checks c.args.source c.args.authority) (seal_result c.args.source c.args.authority)
    _ c.or_cleared.result c.args.source c.seal.ensures.outcome c.with_authority_type.ensures c.or_cleared.ensures
    (λ free. StaysWithin-seal c.args.source c.args.authority) in
    record { result_is = told.0; strict = told.1; stays_within = told.2 }
