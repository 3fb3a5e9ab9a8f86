use Rattle.std.proofs.Common.{ap}
use Rattle.cap_report.specs.BadLines.{shape_fields}
use Rattle.cap_report.proofs.bad_lines.fields_of.Goals as goal

pub returns-in-StoreCap : goal.returns-in-StoreCap
returns-in-StoreCap c = ap shape_fields c.in-StoreCap.ensures.shape
