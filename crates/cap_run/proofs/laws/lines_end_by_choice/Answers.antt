use Rattle.cap_run.proofs.ChoiceLemmas.{by_choice}
use Rattle.cap_run.proofs.laws.lines_end_by_choice.Goals as goal

pub returns : goal.returns
returns c = record { law = by_choice }
