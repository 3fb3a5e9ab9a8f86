use Rattle.std.proofs.Common.{rules}
use Rattle.cap_run.proofs.puts.label_for.Goals as goal

pub returns-else-label-ge32-clause-owner : goal.returns-else-label-ge32-clause-owner
returns-else-label-ge32-clause-owner c = search rules
