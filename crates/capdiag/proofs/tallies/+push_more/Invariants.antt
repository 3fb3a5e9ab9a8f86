use Rattle.std.proofs.Common.{length}
use Rattle.capdiag.proofs.tallies.+push_more.Given as goal

abbrev pub decreases-push_more : goal.decreases-push_more
decreases-push_more l = length l.rows.now
