use Rattle.cap_objects.proofs.BelowLemmas.{CountsAre-move}
use Rattle.cap_objects.proofs.laws.counts_move.Goals as goal

pub returns : goal.returns
returns c = record { law = CountsAre-move }
