use Rattle.cap_run.proofs.DescentLemmas.{lie_in_roots}
use Rattle.cap_run.proofs.laws.accesses_lie_in_roots.Goals as goal

pub returns : goal.returns
returns c = record { law = lie_in_roots }
