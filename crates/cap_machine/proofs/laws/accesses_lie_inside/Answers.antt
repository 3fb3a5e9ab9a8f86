use Rattle.cap_machine.proofs.AccessLemmas.{lie_inside}
use Rattle.cap_machine.proofs.laws.accesses_lie_inside.Goals as goal

pub returns : goal.returns
returns c = record { law = lie_inside }
