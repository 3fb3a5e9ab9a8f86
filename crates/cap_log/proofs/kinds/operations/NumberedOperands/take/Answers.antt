use Rattle.cap_log.proofs.Shapes.{numbered_behind}
use Rattle.cap_log.proofs.kinds.operations.NumberedOperands.take.Goals as goal

pub take_parts-requires : goal.take_parts-requires
take_parts-requires g c = rw c.HEAD.ensures (numbered_behind g.row.WHAT)
