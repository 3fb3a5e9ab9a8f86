use Rattle.std.proofs.Common.{ℕ, ◌/◌, ◌^◌, ap, ◌∙◌, refl}
use Rattle.cap_ops.specs.Permissions.{perms_from_view, with_perms}
use Rattle.cap_ops.proofs.RootLemmas.{IsRoot-bounded}
use Rattle.cap_ops.proofs.roots.bounded_root.Goals as goal

pub returns : goal.returns
returns c =
    let word = c.replace_permissions-word.ensures
    ∙ ap (with_perms c.null.result.0) (c.field_of.ensures ∙ ap perms_from_view c.from.ensures)
    ∙ ap (λ w. with_perms w (perms_from_view c.args.view)) c.null.ensures.value in
    IsRoot-bounded c.with_bounds.result.0 c.args.base c.args.length c.args.view
    (c.with_bounds.ensures.kept ∙ ap (λ (w : ℕ). w / 2 ^ 91) word) c.requires.view_is c.with_bounds.ensures.address
    (c.with_bounds.ensures.decodes c.args.base c.args.length c.ranges.base.fits c.ranges.length.fits c.requires.ends refl
    (c.round.ensures.ie, c.round.ensures.e, c.round.ensures.b, c.round.ensures.t))
