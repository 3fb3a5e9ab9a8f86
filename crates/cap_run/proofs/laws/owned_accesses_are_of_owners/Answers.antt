use Rattle.cap_run.proofs.OwnedLemmas.{owners_access}
use Rattle.cap_run.proofs.laws.owned_accesses_are_of_owners.Goals as goal

pub returns : goal.returns
returns c = record { law = owners_access }
