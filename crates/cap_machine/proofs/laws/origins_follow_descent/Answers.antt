use Rattle.cap_machine.proofs.OriginLemmas.{traced}
use Rattle.cap_machine.proofs.laws.origins_follow_descent.Goals as goal

pub returns : goal.returns
returns c = record { law = traced }
