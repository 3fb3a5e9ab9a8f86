use Rattle.std.proofs.Common.{ap, option_map, ◌∙◌, sym}
use Rattle.cap_ops.specs.Refusals.{refusal_of}
use Rattle.cap_ops.proofs.{Derivations.StaysWithin-unseal, ReachLemmas.StaysWithin-same, ResultLemmas.unsealed_so}
use Rattle.cap_ops.proofs.sealing.unseal.Goals as goal

pub returns-in-None-clause-stays_within : goal.returns-in-None-clause-stays_within
returns-in-None-clause-stays_within c =
    StaysWithin-same c.without_type.result _ c.args.source c.without_type.ensures (StaysWithin-unseal c.args.source c.args.authority)

pub returns-in-None-clause-unsealed_so : goal.returns-in-None-clause-unsealed_so
returns-in-None-clause-unsealed_so c =
    unsealed_so c.args.source c.args.authority c.without_type.result (sym c.unseal_fault.ensures ∙ ap (option_map refusal_of) c.in-None.is) c.without_type.ensures
