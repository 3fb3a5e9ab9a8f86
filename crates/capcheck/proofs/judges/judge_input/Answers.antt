use Rattle.std.proofs.Common.{false, true}
use Rattle.cap_judge.specs.{Reports.Tells, VerdictLines.verdict_status}
use Rattle.cap_program.proofs.Judgements.{judged_read, judged_written}
use Rattle.capcheck.proofs.RunLemmas.{judged_done}
use Rattle.capcheck.proofs.judges.judge_input.Goals as goal

pub returns-then-origins : goal.returns-then-origins
returns-then-origins g c =
    let e = c.judge_origins.ensures in
    let answer = c.judge_origins.result in
    rw (c.if-origins.true, c.judged.ensures.value) (record {
      done = (e.reported.given, e.reported.gives, judged_done (Tells true e.reported.given) _ _ _ answer e.reported.report);
      read = judged_read verdict_status _ _ answer e.pulls_counted.0 e.pulls_counted.1;
      written = judged_written verdict_status _ _ answer e.pushes_counted.0 e.pushes_counted.1;
    })

pub returns-else-origins : goal.returns-else-origins
returns-else-origins g c =
    let e = c.judge_to.ensures in
    let answer = c.judge_to.result in
    rw (c.if-origins.false, c.judged-else-origins.ensures.value) (record {
      done = (e.reported.given, e.reported.gives, judged_done (Tells false e.reported.given) _ _ _ answer e.reported.report);
      read = judged_read verdict_status _ _ answer e.pulls_counted.0 e.pulls_counted.1;
      written = judged_written verdict_status _ _ answer e.pushes_counted.0 e.pushes_counted.1;
    })
