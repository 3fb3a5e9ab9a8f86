use Rattle.cap_run_judge.proofs.UsualLogLemmas.{same_verdict, same_verdict_back}
use Rattle.cap_run_judge.proofs.laws.logs_are_run_logs.Goals as goal

pub returns : goal.returns
returns c = record { law = same_verdict; back = same_verdict_back }
