use Rattle.cap_judge.proofs.EscapeLaws.{names_escapes}
use Rattle.cap_judge.proofs.streams.judge_in.Goals as goal

pub returns-clause-escape : goal.returns-clause-escape
returns-clause-escape g c = names_escapes c.judge_keeping.result.answer
