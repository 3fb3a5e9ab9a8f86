use Rattle.std.proofs.Common.{length}
use Rattle.cap_context.proofs.writers.+found.Given as goal

abbrev pub decreases-found : goal.decreases-found
decreases-found l = length l.writers.now
