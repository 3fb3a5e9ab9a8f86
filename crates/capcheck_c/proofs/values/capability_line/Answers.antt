use Rattle.std.proofs.Common.{arith}
use Rattle.capcheck_c.proofs.values.capability_line.Goals as goal

pub returns-clause-tag : goal.returns-clause-tag
returns-clause-tag c = omega (arith, c.to_c.ensures.tag)
