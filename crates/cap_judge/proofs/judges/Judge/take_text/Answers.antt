use Rattle.std.proofs.Common.{None}
use Rattle.cap_judge.specs.Readings.{stage_of}
use Rattle.cap_judge.proofs.TurnLemmas.{text_ends}
use Rattle.cap_judge.proofs.judges.Judge.take_text.Goals as goal

pub returns-in-Ok-clause-ok : goal.returns-in-Ok-clause-ok
returns-in-Ok-clause-ok g c = (c.in-Some.line, c.in-Some.ensures.some, c.in-Ok.ensures.0)

pub returns-in-Err-clause-err : goal.returns-in-Err-clause-err
returns-in-Err-clause-err g c =
    text_ends (stage_of c.args.self.now) c.args.text.now c.in-Some.line c.in-Err.end c.in-Some.ensures.some c.in-Err.ensures.0

pub returns-in-None-clause-err : goal.returns-in-None-clause-err
returns-in-None-clause-err g c = (None, λ line range is. c.in-None.ensures.none line (range, is), c.refusal_of_formless.ensures)
