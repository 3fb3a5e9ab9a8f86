use Rattle.cap_run.proofs.DescentLemmas.{stay_within_roots}
use Rattle.cap_run.proofs.laws.runs_stay_within_roots.Goals as goal

pub returns : goal.returns
returns c = record { law = stay_within_roots }
