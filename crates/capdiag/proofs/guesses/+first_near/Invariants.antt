use Rattle.std.proofs.Common.{length}
use Rattle.capdiag.proofs.guesses.+first_near.Given as goal

abbrev pub decreases-first_near : goal.decreases-first_near
decreases-first_near l = length l.known.now
