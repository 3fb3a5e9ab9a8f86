use Rattle.cap_judge.proofs.JudgeLemmas.{cleared_along}
use Rattle.cap_judge.proofs.laws.logs_clear_exactly.Goals as goal

pub returns : goal.returns
returns c = record { law = cleared_along }
