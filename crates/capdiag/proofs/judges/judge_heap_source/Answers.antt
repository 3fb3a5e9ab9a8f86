use Rattle.cap_heap.specs.VerdictLines.{heap_status}
use Rattle.cap_program.proofs.Judgements.{judged_read, judged_written}
use Rattle.capdiag.proofs.HeapLemmas.{heap_done}
use Rattle.capdiag.proofs.judges.judge_heap_source.Goals as goal

pub returns : goal.returns
returns g c =
    let e = c.judge_heap_to.ensures in
    let answer = c.judge_heap_to.result in
    rw c.heap_judged.ensures.value (record {
      done = (e.told.given, e.told.gives, heap_done c.args.report c.args.why e.told.given _ _ answer e.told.told);
      read = judged_read heap_status _ _ answer e.pulls_counted.0 e.pulls_counted.1;
      written = judged_written heap_status _ _ answer e.pushes_counted.0 e.pushes_counted.1;
    })
