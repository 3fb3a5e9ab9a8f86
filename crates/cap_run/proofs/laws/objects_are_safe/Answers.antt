use Rattle.cap_run.proofs.ApartLemmas.{safe_at_each}
use Rattle.cap_run.proofs.laws.objects_are_safe.Goals as goal

pub returns : goal.returns
returns c = record { law = safe_at_each }
