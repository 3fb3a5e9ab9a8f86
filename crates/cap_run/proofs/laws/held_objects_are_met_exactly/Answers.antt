use Rattle.cap_run.proofs.StillHeldLemmas.{held_exactly}
use Rattle.cap_run.proofs.laws.held_objects_are_met_exactly.Goals as goal

pub returns : goal.returns
returns c = record { law = held_exactly }
