use Rattle.cap_judge.proofs.EscapeLaws.{named}
use Rattle.cap_report.proofs.AnswerLemmas.{no_pull, no_want, of_verdict}
use Rattle.cap_report.proofs.answers.answer_on.Goals as goal

pub returns-in-Ok-clause-answer : goal.returns-in-Ok-clause-answer
returns-in-Ok-clause-answer g c =
    of_verdict c.args.bytes.now c.in-Ok.verdict c.numbers_of.result (rw c.in-Ok.is at c.judge_bytes_keeping.ensures.judged.answer)
    c.numbers_of.ensures.value

pub returns-in-Ok-clause-escape : goal.returns-in-Ok-clause-escape
returns-in-Ok-clause-escape g c = λ verdict is. named verdict

pub returns-in-Ok-clause-full : goal.returns-in-Ok-clause-full
returns-in-Ok-clause-full g c = λ three. absurd (no_want c.in-Ok.verdict c.numbers_of.result c.numbers_of.ensures.value three)

pub returns-clause-full : goal.returns-clause-full
returns-clause-full g c = λ three.
    let all = c.judge_bytes_keeping.ensures in
    all.full (no_pull c.in-Err.field-0 c.judge_bytes_keeping.result.answer c.in-Err.is all.judged.pulls_nothing)
