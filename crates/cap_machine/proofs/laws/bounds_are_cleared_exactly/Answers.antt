use Rattle.cap_machine.proofs.EscapeLemmas.{clears}
use Rattle.cap_machine.proofs.laws.bounds_are_cleared_exactly.Goals as goal

pub returns : goal.returns
returns c = record { law = clears }
