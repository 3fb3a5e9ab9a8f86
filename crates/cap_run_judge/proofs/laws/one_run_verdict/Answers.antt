use Rattle.cap_run_judge.proofs.OneVerdict.{one_verdict}
use Rattle.cap_run_judge.proofs.laws.one_run_verdict.Goals as goal

pub returns : goal.returns
returns c = record { law = one_verdict }
