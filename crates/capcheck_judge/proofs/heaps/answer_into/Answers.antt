use Rattle.std.proofs.Common.{ap, Err, arith, rules}
use Rattle.cap_report.specs.Sinks.{Took}
use Rattle.capcheck_judge.proofs.HeapLemmas.{heap_answered, heap_lacking}
use Rattle.capcheck_judge.proofs.heaps.answer_into.Goals as goal

pub returns-in-Ok : goal.returns-in-Ok
returns-in-Ok c =
    let told = c.in-Ok.ensures.told in
    record {
      answer = heap_answered c.args.bytes.now told.given c.judge_heap_to.new.source.rest.now c.judge_heap_to.new.source.is_ended
          (Took c.args.sink.now c.judge_heap_to.new.sink) (search rules) c.judge_heap_to.new.source.all_given
          c.heap_numbers_of.result c.in-Ok.verdict c.heap_numbers_of.ensures.value told.told;
    }

pub returns-in-Err : goal.returns-in-Err
returns-in-Err c =
    let told = c.in-Err.ensures.told in
    record {
      answer = heap_lacking c.args.bytes.now told.given c.judge_heap_to.new.source.rest.now c.judge_heap_to.new.source.is_ended
          (Took c.args.sink.now c.judge_heap_to.new.sink) (search rules) c.judge_heap_to.new.source.all_given
          c.heap_without_verdict.result c.in-Err.field-0
          (λ e. absurd (omega (arith, c.in-Err.ensures.pulls_counted.1 (ap Err e))))
          (λ e. absurd (omega (arith, c.in-Err.ensures.pushes_counted.1 (ap Err e)))) c.heap_without_verdict.ensures.value told.told;
    }
