use Rattle.std.specs.FinMap.{len, len-empty}
use Rattle.std.proofs.Common.{ℕ, Err, ap, arith, ◌∙◌, nat_cmp, subst}
use Rattle.tagmem.specs.Granules.{Entry}
use Rattle.cap_judge.specs.Logs.{LacksRoom}
use Rattle.cap_report.specs.Sinks.{Took}
use Rattle.cap_report.proofs.AnswerLemmas.{no_want, of_verdict}
use Rattle.capcheck_freestanding.proofs.WholeLemmas.{of_why_fault, only_memory}
use Rattle.capcheck_freestanding.proofs.explanations.answer_into.Goals as goal

pub judge_why_bytes-requires : goal.judge_why_bytes-requires
judge_why_bytes-requires c = ap len c.new.ensures.empty ∙ len-empty nat_cmp Entry

pub returns-in-Ok-clause-answer : goal.returns-in-Ok-clause-answer
returns-in-Ok-clause-answer c =
    let why = c.in-Ok.ensures.explained in (
      of_verdict c.args.bytes.now c.in-Ok.verdict c.numbers_of.result why.0 c.numbers_of.ensures.value,
      why.1,
      why.2,
      why.3,
    )

pub returns-in-Err-clause-answer : goal.returns-in-Err-clause-answer
returns-in-Err-clause-answer c =
    of_why_fault c.args.origins c.args.bytes.now (Took c.args.sink.now c.judge_why_bytes.new.sink) c.in-Err.field-0 c.without_verdict.result
    (λ e. c.in-Err.ensures.pulls_nothing (ap Err e)) (λ e. absurd (omega (arith, c.in-Err.ensures.pushes_counted.1 (ap Err e))))
    c.in-Err.ensures.explained c.without_verdict.ensures.value

pub returns-in-Ok-clause-full : goal.returns-in-Ok-clause-full
returns-in-Ok-clause-full c = λ three. absurd (no_want c.in-Ok.verdict c.numbers_of.result c.numbers_of.ensures.value three)

pub returns-in-Err-clause-full : goal.returns-in-Err-clause-full
returns-in-Err-clause-full c = λ three.
    subst (λ (room : ℕ). LacksRoom room c.args.bytes.now) c.new.ensures.capacity
    (c.judge_why_bytes.ensures.full (only_memory c.in-Err.field-0 c.judge_why_bytes.result c.in-Err.is
    (λ e. c.in-Err.ensures.pulls_nothing (ap Err e)) (λ e. absurd (omega (arith, c.in-Err.ensures.pushes_counted.1 (ap Err e))))))
