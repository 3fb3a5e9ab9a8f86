use Rattle.std.proofs.Common.{arith, rules, subst}
use Rattle.cap_report.specs.Texts.{IsTold}
use Rattle.cap_report.proofs.TextLemmas.{told_from}
use Rattle.capcheck_judge.proofs.run_reports.write_run_end_report.Goals as goal

pub returns-in-Ok : goal.returns-in-Ok
returns-in-Ok c = λ asks bytes read.
    let ended = c.in-Ok.ensures.ok asks bytes read in
    record {
      verdict = ended.0;
      text = ended.1;
      explains = ended.2;
      few = ended.4;
      told = subst (λ n. IsTold 0 c.length.result ended.1 c.args.text.now n) (search rules)
          (told_from c.new-sink.result c.push_run_ending.new.sink ended.1 c.args.text.now c.length.result c.new-sink.ensures.none
          c.new-sink.ensures.room c.length.ensures.count ended.3);
    }

pub returns-in-Err : goal.returns-in-Err
returns-in-Err c = λ asks bytes read. absurd (omega (arith, c.in-Err.ensures.counted))
