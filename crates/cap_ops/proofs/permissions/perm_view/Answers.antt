use Rattle.std.proofs.{Common.arith, lemmas.Nat.and_mask}
use Rattle.cap_ops.specs.Permissions.{perm_view_of}
use Rattle.cap_ops.proofs.permissions.perm_view.Goals as goal

pub returns : goal.returns
unfolding perm_view_of
returns c = record { value = omega (arith, and_mask c.from-field.result 12) }
