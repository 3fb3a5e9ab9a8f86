use Rattle.cap_run.proofs.ChoiceLemmas.{refused_by_choice}
use Rattle.cap_run.proofs.laws.lines_are_refused_by_choice.Goals as goal

pub returns : goal.returns
returns c = record { law = refused_by_choice }
