use Rattle.cap_run.proofs.UsualRunLemmas.{means_the_same}
use Rattle.cap_run.proofs.laws.usual_lines_mean_the_same.Goals as goal

pub returns : goal.returns
returns c = record { law = means_the_same }
