use Rattle.cap_judge.proofs.EscapeLaws.{named}
use Rattle.cap_judge.proofs.judges.Judge.answer.Goals as goal

pub returns-in-Refused-clause-escape : goal.returns-in-Refused-clause-escape
returns-in-Refused-clause-escape g c = named c.verdict.result
