use Rattle.cap_run.proofs.ChoiceLemmas.{all_allowed_with_less}
use Rattle.cap_run.proofs.laws.asking_less_allows_more.Goals as goal

pub returns : goal.returns
returns c = record { law = all_allowed_with_less }
