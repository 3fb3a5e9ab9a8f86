use Rattle.std.proofs.Common.{ap, sym}
use Rattle.cap_report.specs.Says.{giver}
use Rattle.cap_report.proofs.says.giver.Goals as goal

pub returns-in-Some-clause-text : goal.returns-in-Some-clause-text
returns-in-Some-clause-text c = ap giver (sym c.in-Some.is)
