use Rattle.cap_run.proofs.ErasureLemmas.{erased_allowed}
use Rattle.cap_run.proofs.laws.lines_are_allowed_without_objects.Goals as goal

pub returns : goal.returns
returns c = record { law = erased_allowed }
