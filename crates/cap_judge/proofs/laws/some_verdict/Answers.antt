use Rattle.cap_judge.proofs.TurnLaws.{some_verdict}
use Rattle.cap_judge.proofs.laws.some_verdict.Goals as goal

pub returns : goal.returns
returns c = record { law = some_verdict }
