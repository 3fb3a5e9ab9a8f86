use Rattle.cap_machine.proofs.AuthorityLemmas.{one_back}
use Rattle.cap_machine.proofs.laws.steps_stay_within.Goals as goal

pub returns : goal.returns
returns c = record { law = λ rules old step new range sound leads key held. one_back rules old step new key range sound leads held }
