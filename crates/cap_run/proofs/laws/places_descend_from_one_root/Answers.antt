use Rattle.cap_run.proofs.OneRootLemmas.{descend_from_one}
use Rattle.cap_run.proofs.laws.places_descend_from_one_root.Goals as goal

pub returns : goal.returns
returns c = record { law = descend_from_one }
