use Rattle.std.proofs.Common.{inr, subst}
use Rattle.cap_streams.specs.FaultLines.{bytes_of}
use Rattle.cap_run_judge.specs.{Readings.{EndsBytes, stage_of}, Turns.run_turns}
use Rattle.cap_run_judge.proofs.judges.RunJudge.stop.Goals as goal
use Rattle.cap_turns.proofs.TurnLemmas.{goes_none, last_front}

pub returns-in-NoMemory : goal.returns-in-NoMemory
returns-in-NoMemory g c = record {
  stops = let old = stage_of c.args.self.now in
      let lacks = subst (EndsBytes old c.args.bytes.now) c.in-NoMemory.is c.requires.ends in
      (goes_none run_turns old, lacks.0, lacks.1);
}

pub returns-in-Refused : goal.returns-in-Refused
returns-in-Refused g c = record {
  stops = let old = stage_of c.args.self.now in
      let fault = c.fault.result in
      let line = c.fault.ensures.line in
      let refusal = c.fault.ensures.refusal in
      let refused = subst (EndsBytes old c.args.bytes.now) c.in-Refused.is c.requires.ends in
      let front = last_front run_turns old c.args.bytes.now (bytes_of fault.text) c.in-Refused.refusal refused c.fault.ensures.front in
      (old, goes_none run_turns old, inr (c.requires.clear, c.in-Refused.refusal, bytes_of fault.text, refused, front, cc (line, refusal)));
}
