use Rattle.std.proofs.Common.{[]}
use Rattle.cap_streams.specs.FaultLines.{bytes_of}
use Rattle.cap_run_judge.specs.Readings.{stage_of}
use Rattle.cap_run_judge.proofs.QuestionLemmas.{ends_yes}
use Rattle.cap_run_judge.proofs.judges.RunJudge.end.Goals as goal

pub returns-in-Ok : goal.returns-in-Ok
returns-in-Ok g c = record {
  verdict = λ cut.
      ([], ends_yes (stage_of c.args.self.now) c.args.rest.now c.in-Ok.verdict (rw c.in-Ok.is at (c.ending.ensures.ends cut)));
}

pub returns-in-Err : goal.returns-in-Err
returns-in-Err g c = record {
  verdict = λ cut. (bytes_of c.in-Err.fault.text, rw c.verdict.ensures.value (rw c.in-Err.is at (c.ending.ensures.ends cut)));
}
