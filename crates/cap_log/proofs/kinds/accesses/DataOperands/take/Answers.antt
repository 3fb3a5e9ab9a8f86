use Rattle.std.proofs.Common.{not, eqb}
use Rattle.cap_log.proofs.Shapes.{data_behind}
use Rattle.cap_log.proofs.kinds.accesses.DataOperands.take.Goals as goal

pub take_parts-requires : goal.take_parts-requires
take_parts-requires g c = rw c.HEAD.ensures (data_behind g.row.IS_LOAD (not (eqb g.row.IS_LOAD 0)))
