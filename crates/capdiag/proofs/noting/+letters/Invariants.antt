use Rattle.std.proofs.Common.{length}
use Rattle.capdiag.proofs.noting.+letters.Given as goal

abbrev pub decreases-letters : goal.decreases-letters
decreases-letters l = length l.text.now
