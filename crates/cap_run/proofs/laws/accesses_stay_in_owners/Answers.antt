use Rattle.cap_run.proofs.OwnedLemmas.{accesses_own}
use Rattle.cap_run.proofs.laws.accesses_stay_in_owners.Goals as goal

pub returns : goal.returns
returns c = record { law = accesses_own }
