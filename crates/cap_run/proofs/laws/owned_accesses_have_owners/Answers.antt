use Rattle.cap_run.proofs.OwnedLemmas.{owned_access}
use Rattle.cap_run.proofs.laws.owned_accesses_have_owners.Goals as goal

pub returns : goal.returns
returns c = record { law = owned_access }
