use Rattle.std.proofs.Common.{arith}
use Rattle.capcheck_c.proofs.explanations.capcheck_explain.Goals as goal

pub returns-else-length-text-clause-written : goal.returns-else-length-text-clause-written
returns-else-length-text-clause-written c = λ fits. absurd (omega (arith, fits))
