use Rattle.cap_ops.proofs.PermissionLemmas.{has_permission-bit}
use Rattle.cap_ops.proofs.bits.permits.Goals as goal

pub returns : goal.returns
returns c = has_permission-bit c.args.word.0 c.args.permission c.requires
