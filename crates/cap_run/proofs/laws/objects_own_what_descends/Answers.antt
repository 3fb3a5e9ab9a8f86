use Rattle.cap_run.proofs.PassLemmas.{owners_descend}
use Rattle.cap_run.proofs.laws.objects_own_what_descends.Goals as goal

pub returns : goal.returns
returns c = record { law = owners_descend }
