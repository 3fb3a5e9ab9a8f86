use Rattle.std.proofs.Common.{[]}
use Rattle.cap_streams.specs.FaultLines.{bytes_of}
use Rattle.cap_judge.specs.Readings.{stage_of}
use Rattle.cap_judge.proofs.{EscapeLaws.named, TurnLemmas.ends_ok}
use Rattle.cap_judge.proofs.judges.Judge.end.Goals as goal

pub returns-in-Ok : goal.returns-in-Ok
returns-in-Ok g c = record {
  verdict = λ cut.
      ([], ends_ok (stage_of c.args.self.now) c.args.rest.now c.in-Ok.verdict (rw c.in-Ok.is at (c.ending.ensures.ends cut)));
  escape = named c.in-Ok.verdict;
}

pub returns-in-Err : goal.returns-in-Err
returns-in-Err g c = record {
  verdict = λ cut. (bytes_of c.in-Err.fault.text, rw c.verdict.ensures.value (rw c.in-Err.is at (c.ending.ensures.ends cut)));
  escape = named c.verdict.result;
}
