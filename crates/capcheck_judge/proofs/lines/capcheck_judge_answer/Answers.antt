use Rattle.std.proofs.Common.{◌∙◌, ap, sym, None, Some}
use Rattle.cap_judge.proofs.EscapeLaws.{named}
use Rattle.capcheck_judge.proofs.HandleLemmas.{answered_so_far}
use Rattle.capcheck_judge.proofs.lines.capcheck_judge_answer.Goals as goal

pub returns-in-Some-answer-clause-answer : goal.returns-in-Some-answer-clause-answer
returns-in-Some-answer-clause-answer c = λ bytes.
    answered_so_far c.args.judge.now.judge c.deref.result.now bytes (Some c.in-Some-answer.no) c.numbers_of.result
    (c.in-Some.ensures.taken ∙ ap Some (sym c.deref.ensures)) c.in-Some-answer.ensures.so_far c.numbers_of.ensures.value

pub returns-in-None-answer-clause-answer : goal.returns-in-None-answer-clause-answer
returns-in-None-answer-clause-answer c = λ bytes.
    answered_so_far c.args.judge.now.judge c.deref.result.now bytes None c.without_verdict.result
    (c.in-Some.ensures.taken ∙ ap Some (sym c.deref.ensures)) c.in-None-answer.ensures.so_far c.without_verdict.ensures.value

pub returns-in-Some-answer-clause-escape : goal.returns-in-Some-answer-clause-escape
returns-in-Some-answer-clause-escape c = λ verdict is. named verdict
