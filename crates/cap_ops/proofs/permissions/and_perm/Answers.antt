use Rattle.std.proofs.Common.{ap, ◌∙◌}
use Rattle.cap_word.specs.declared.word.Cap.{Cap}
use Rattle.cap_ops.specs.Permissions.{perm_view_of}
use Rattle.cap_ops.proofs.{Derivations.{StaysWithin-and_perm, view-and_perm_result}, ReachLemmas.StaysWithin-same}
use Rattle.cap_ops.proofs.permissions.and_perm.Goals as goal

pub returns-in-None-clause-view : goal.returns-in-None-clause-view
returns-in-None-clause-view c =
    ap (λ (cap : Cap). perm_view_of cap.word.0) c.masked.ensures ∙ view-and_perm_result c.args.source c.args.mask

pub returns-in-None-clause-stays_within : goal.returns-in-None-clause-stays_within
returns-in-None-clause-stays_within c =
    StaysWithin-same c.masked.result _ c.args.source c.masked.ensures (StaysWithin-and_perm c.args.source c.args.mask)
