use Rattle.cap_judge.proofs.InTurn.{accepted_in_turn}
use Rattle.cap_judge.proofs.laws.accepted_in_turn.Goals as goal

pub returns : goal.returns
returns c = record { law = accepted_in_turn }
