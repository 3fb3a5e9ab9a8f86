use Rattle.cap_run.proofs.ChoiceLemmas.{is_first_refused}
use Rattle.cap_run.proofs.laws.first_refused_is_first.Goals as goal

pub returns : goal.returns
returns c = record { law = is_first_refused }
