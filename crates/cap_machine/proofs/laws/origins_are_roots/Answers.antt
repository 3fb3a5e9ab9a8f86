use Rattle.cap_machine.proofs.OriginLemmas.{origins_found}
use Rattle.cap_machine.proofs.laws.origins_are_roots.Goals as goal

pub returns : goal.returns
returns c = record { law = origins_found }
