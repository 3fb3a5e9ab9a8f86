use Rattle.cap_program.proofs.Judgements.{judged_read, judged_written}
use Rattle.cap_run_judge.specs.VerdictLines.{run_verdict_status}
use Rattle.capdiag.proofs.RunLogLemmas.{run_done}
use Rattle.capdiag.proofs.judges.judge_run_source.Goals as goal

pub returns : goal.returns
returns g c =
    let e = c.judge_telling.ensures in
    let answer = c.judge_telling.result in
    rw c.run_judged.ensures.value (record {
      done = (e.reported.given, e.reported.gives, run_done c.args.run c.args.why c.args.told e.reported.given _ _ answer e.reported.report);
      read = judged_read run_verdict_status _ _ answer e.pulls_counted.0 e.pulls_counted.1;
      written = judged_written run_verdict_status _ _ answer e.pushes_counted.0 e.pushes_counted.1;
    })
