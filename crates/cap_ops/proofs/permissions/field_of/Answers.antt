use Rattle.std.proofs.{Common.{◌/◌, ◌^◌, arith}, lemmas.Nat.and_mask}
use Rattle.cap_ops.specs.Permissions.{perms_from_view}
use Rattle.cap_ops.proofs.permissions.field_of.Goals as goal

pub returns : goal.returns
unfolding perms_from_view
returns c = omega (arith, and_mask c.args.view 12, and_mask (c.args.view / 2 ^ 15) 4)
