use Rattle.cap_log.proofs.Shapes.{none_behind}
use Rattle.cap_log.proofs.operands.take_parts.Goals as goal

pub returns-in_err-parts-clause-none : goal.returns-in_err-parts-clause-none
returns-in_err-parts-clause-none g c =
    rw c.from_residual.ensures (none_behind c.args.head g.P.Part.fits g.P.Part.spelled c.requires c.args.bytes.now c.in_err-parts.ensures.none)
