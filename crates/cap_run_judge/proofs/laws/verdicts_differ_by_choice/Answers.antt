use Rattle.cap_run_judge.proofs.ChosenVerdicts.{verdicts_by_choice}
use Rattle.cap_run_judge.proofs.laws.verdicts_differ_by_choice.Goals as goal

pub returns : goal.returns
returns c = record { law = verdicts_by_choice }
