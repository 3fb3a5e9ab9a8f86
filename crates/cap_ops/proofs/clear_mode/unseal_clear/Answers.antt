use Rattle.cap_ops.specs.Operations.{unseal_checks, unseal_result}
use Rattle.cap_ops.proofs.{ClearLemmas.in_clear_mode, Derivations.StaysWithin-unseal}
use Rattle.cap_ops.proofs.clear_mode.unseal_clear.Goals as goal

pub returns : goal.returns
returns c =
    let told = in_clear_mode c.unseal.result (unseal_checks c.args.source c.args.authority) (unseal_result c.args.source c.args.authority)
    _ c.or_cleared.result c.args.source c.unseal.ensures.outcome c.without_type.ensures c.or_cleared.ensures
    (λ free. StaysWithin-unseal c.args.source c.args.authority) in
    record { result_is = told.0; strict = told.1; stays_within = told.2 }
