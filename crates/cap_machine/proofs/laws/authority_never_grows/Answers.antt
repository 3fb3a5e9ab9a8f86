use Rattle.cap_machine.proofs.AuthorityLemmas.{one_root}
use Rattle.cap_machine.proofs.laws.authority_never_grows.Goals as goal

pub returns : goal.returns
returns c = record { law = one_root }
