use Rattle.cap_run.proofs.LineLemmas.{stays_within}
use Rattle.cap_run.proofs.laws.lines_stay_within.Goals as goal

pub returns : goal.returns
returns c = record { law = stays_within }
