use Rattle.std.proofs.Common.{arith, rules, subst}
use Rattle.cap_report.specs.Texts.{IsTold}
use Rattle.cap_report.proofs.TextLemmas.{told_from}
use Rattle.capcheck_judge.proofs.run_reports.write_run_report.Goals as goal

pub returns-in-Ok : goal.returns-in-Ok
returns-in-Ok c = λ asks bytes read.
    let so_far = c.in-Ok.ensures.ok asks bytes read in
    record {
      verdict = so_far.0;
      text = so_far.1;
      explains = so_far.2;
      few = so_far.4;
      told = subst (λ n. IsTold 0 c.length.result so_far.1 c.args.text.now n) (search rules)
          (told_from c.new-sink.result c.push_run_refused.new.sink so_far.1 c.args.text.now c.length.result c.new-sink.ensures.none
          c.new-sink.ensures.room c.length.ensures.count so_far.3);
    }

pub returns-in-Err : goal.returns-in-Err
returns-in-Err c = λ asks bytes read. absurd (omega (arith, c.in-Err.ensures.counted))
