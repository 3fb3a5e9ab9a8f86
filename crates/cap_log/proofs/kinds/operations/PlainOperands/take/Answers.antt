use Rattle.std.proofs.Common.{not, eqb}
use Rattle.cap_log.proofs.Shapes.{plain_behind}
use Rattle.cap_log.proofs.kinds.operations.PlainOperands.take.Goals as goal

pub take_parts-requires : goal.take_parts-requires
take_parts-requires g c = rw c.HEAD.ensures (plain_behind (not (eqb g.row.IS_CLEARING 0)))
