use Rattle.std.proofs.Common.{rules, subst}
use Rattle.cap_report.specs.Texts.{IsTold}
use Rattle.cap_report.proofs.TextLemmas.{told_from}
use Rattle.capcheck_judge.proofs.heaps.capcheck_heap_judge_why.Goals as goal

pub returns : goal.returns
returns c =
    let why = c.answer_into-answer.ensures.answer in
    record {
      why = record {
        verdict = why.0;
        text = why.1;
        answered = why.2;
        told = subst (λ n. IsTold 0 c.length-length.result why.1 c.args.text.now n) (search rules)
            (told_from c.new-sink.result c.answer_into-answer.new.sink why.1 c.args.text.now c.length-length.result
            c.new-sink.ensures.none c.new-sink.ensures.room c.length-length.ensures.count why.3);
      };
    }
