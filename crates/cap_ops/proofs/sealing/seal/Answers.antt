use Rattle.std.proofs.Common.{ap, option_map, ◌∙◌, sym}
use Rattle.cap_ops.specs.Refusals.{refusal_of}
use Rattle.cap_ops.proofs.{Derivations.StaysWithin-seal, ReachLemmas.StaysWithin-same, ResultLemmas.sealed_so}
use Rattle.cap_ops.proofs.sealing.seal.Goals as goal

pub returns-in-None-clause-stays_within : goal.returns-in-None-clause-stays_within
returns-in-None-clause-stays_within c =
    StaysWithin-same c.with_authority_type.result _ c.args.source c.with_authority_type.ensures
    (StaysWithin-seal c.args.source c.args.authority)

pub returns-in-None-clause-sealed_so : goal.returns-in-None-clause-sealed_so
returns-in-None-clause-sealed_so c =
    sealed_so c.args.source c.args.authority c.with_authority_type.result (sym c.seal_fault.ensures ∙ ap (option_map refusal_of) c.in-None.is)
    c.with_authority_type.ensures
