use Rattle.std.proofs.Common.{ap, ◌∙◌}
use Rattle.cap_ops.specs.Permissions.{perms_from_view, with_perms}
use Rattle.cap_ops.proofs.RootLemmas.{IsRoot-whole}
use Rattle.cap_ops.proofs.roots.whole_root.Goals as goal

pub returns : goal.returns
returns c =
    IsRoot-whole c.replace_permissions.result.0 c.args.view (c.replace_permissions.ensures
    ∙ ap (with_perms c.null.result.0) (c.field_of.ensures ∙ ap perms_from_view c.from.ensures)
    ∙ ap (λ w. with_perms w (perms_from_view c.args.view)) c.null.ensures.value) c.requires
