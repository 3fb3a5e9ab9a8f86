use Rattle.std.proofs.Common.{◌∙◌, ap, sym, None, Some}
use Rattle.capcheck_judge.proofs.RunTakingLemmas.{answered_so_far}
use Rattle.capcheck_judge.proofs.run_lines.capcheck_run_judge_answer.Goals as goal

pub returns-in-Some-answer-clause-answer : goal.returns-in-Some-answer-clause-answer
returns-in-Some-answer-clause-answer c = λ asks bytes.
    answered_so_far c.args.judge.now.judge c.deref.result.now asks bytes (Some c.in-Some-answer.no) c.run_numbers_of.result
    (c.in-Some.ensures.taken ∙ ap Some (sym c.deref.ensures)) c.in-Some-answer.ensures.so_far c.run_numbers_of.ensures.value

pub returns-in-None-answer-clause-answer : goal.returns-in-None-answer-clause-answer
returns-in-None-answer-clause-answer c = λ asks bytes.
    answered_so_far c.args.judge.now.judge c.deref.result.now asks bytes None c.run_without_verdict.result
    (c.in-Some.ensures.taken ∙ ap Some (sym c.deref.ensures)) c.in-None-answer.ensures.so_far c.run_without_verdict.ensures.value
