use Rattle.cap_judge.specs.{Readings.stage_of, Turns.log_turns}
use Rattle.cap_judge.proofs.TurnLemmas.{goes_line_some}
use Rattle.cap_judge.proofs.judges.Judge.take_steps_and_line.Goals as goal
use Rattle.cap_turns.proofs.TurnLemmas.{stops_after}

pub returns-in-Some-clause-taken : goal.returns-in-Some-clause-taken
returns-in-Some-clause-taken g c =
    let taken = c.take_front_steps-end.ensures.taken in (
      taken.0,
      taken.1,
      stops_after log_turns (stage_of c.args.self.now) (stage_of c.take_front_steps-end.new.self) (stage_of c.stop.new.self) taken.0
          c.take_front_steps-end.result.0.now c.stop.result taken.2 c.stop.ensures.stops,
    )

pub returns-in-Ok-clause-taken : goal.returns-in-Ok-clause-taken
returns-in-Ok-clause-taken g c =
    let taken = c.take_front_steps-end.ensures.taken in
    let line = c.in-Ok.ensures.ok in
    goes_line_some (stage_of c.args.self.now) (stage_of c.take_front_steps-end.new.self) (stage_of c.take_any_line.new.self) c.args.bytes.now taken.0
    c.take_front_steps-end.result.0.now c.in-Ok.behind.now line.0 taken.1 taken.2 line.1 line.2

pub returns-in-Err-clause-taken : goal.returns-in-Err-clause-taken
returns-in-Err-clause-taken g c =
    let taken = c.take_front_steps-end.ensures.taken in (
      taken.0,
      taken.1,
      stops_after log_turns (stage_of c.args.self.now) (stage_of c.take_front_steps-end.new.self) (stage_of c.take_any_line.new.self) taken.0
          c.take_front_steps-end.result.0.now c.in-Err.stop taken.2 c.in-Err.ensures.err,
    )
