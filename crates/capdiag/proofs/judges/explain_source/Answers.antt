use Rattle.cap_judge.specs.VerdictLines.{verdict_status}
use Rattle.cap_report.specs.Whys.{Explains}
use Rattle.cap_program.proofs.Judgements.{judged_read, judged_written}
use Rattle.capdiag.proofs.RunLemmas.{judged_done}
use Rattle.capdiag.proofs.judges.explain_source.Goals as goal

pub returns : goal.returns
returns g c =
    let e = c.judge_why.ensures in
    let given = e.explained.given in
    let answer = c.judge_why.result in
    rw c.judged.ensures.value (record {
      done = (given, e.explained.gives, judged_done (Explains c.args.origins given _) given _ _ answer e.explained.report);
      read = judged_read verdict_status _ _ answer e.pulls_counted.0 e.pulls_counted.1;
      written = judged_written verdict_status _ _ answer e.pushes_counted.0 e.pushes_counted.1;
    })
