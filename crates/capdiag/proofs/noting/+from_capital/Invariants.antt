use Rattle.std.proofs.Common.{length}
use Rattle.capdiag.proofs.noting.+from_capital.Given as goal

abbrev pub decreases-from_capital : goal.decreases-from_capital
decreases-from_capital l = length l.text.now
