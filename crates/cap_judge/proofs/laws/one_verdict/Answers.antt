use Rattle.cap_judge.proofs.OneVerdict.{one_verdict}
use Rattle.cap_judge.proofs.laws.one_verdict.Goals as goal

pub returns : goal.returns
returns c = record { law = one_verdict }
