use Rattle.cap_run_judge.proofs.OneVerdict.{some_run_verdict}
use Rattle.cap_run_judge.proofs.laws.some_run_verdict.Goals as goal

pub returns : goal.returns
returns c = record { law = some_run_verdict }
