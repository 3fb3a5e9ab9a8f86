use Rattle.std.proofs.Common.{arith}
use Rattle.capcheck_judge.proofs.places.given_by.Goals as goal

pub returns-in-Capability-clause-tag : goal.returns-in-Capability-clause-tag
returns-in-Capability-clause-tag c = omega (arith, c.to_c.ensures.tag)
