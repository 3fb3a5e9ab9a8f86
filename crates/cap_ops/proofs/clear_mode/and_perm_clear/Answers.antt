use Rattle.cap_ops.specs.Operations.{and_perm_checks, and_perm_result}
use Rattle.cap_ops.proofs.{ClearLemmas.in_clear_mode, Derivations.StaysWithin-and_perm}
use Rattle.cap_ops.proofs.clear_mode.and_perm_clear.Goals as goal

pub returns : goal.returns
returns c =
    let told = in_clear_mode c.and_perm.result (and_perm_checks c.args.source) (and_perm_result c.args.source c.args.mask)
    _ c.or_cleared.result c.args.source c.and_perm.ensures.outcome c.masked.ensures c.or_cleared.ensures
    (λ free. StaysWithin-and_perm c.args.source c.args.mask) in
    record { result_is = told.0; strict = told.1; stays_within = told.2 }
