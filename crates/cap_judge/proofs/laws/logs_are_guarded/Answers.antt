use Rattle.cap_judge.proofs.JudgeLemmas.{guarded}
use Rattle.cap_judge.proofs.laws.logs_are_guarded.Goals as goal

pub returns : goal.returns
returns c = record { law = guarded }
