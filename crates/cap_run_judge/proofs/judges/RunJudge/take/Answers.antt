use Rattle.std.proofs.{Common.{[], length, refl}, Math.Nat.sub-le}
use Rattle.cap_run_judge.specs.{Readings.stage_of, Turns.run_turns}
use Rattle.cap_run_judge.proofs.TurnLemmas.{later_shorter}
use Rattle.cap_run_judge.proofs.judges.RunJudge.take.Goals as goal
use Rattle.cap_turns.proofs.{TurnLemmas.{goes_line, goes_more, goes_none, stops_here}, LineLemmas.later_fits}

pub lines-init : goal.lines-init
lines-init g c = record { taken = ([], refl, goes_none run_turns (stage_of c.args.self.now)) }

pub lines-preserved : goal.lines-preserved
lines-preserved g c =
    let first = stage_of c.args.self.now in
    let middle = stage_of c.take_front_steps-before.new.self in
    let so_far = c.lines.invariant.taken in
    let steps = c.take_front_steps-before.ensures in
    let here = c.take_front_steps-before.result.now in
    let on = goes_more run_turns first (stage_of c.lines.self) middle c.args.bytes.now so_far.0 c.lines.rest.now steps.0 here
    so_far.1 so_far.2 steps.1 steps.2 in
    let line = c.in-Ok.ensures.ok in
    record {
      taken = goes_line run_turns first middle (stage_of c.take_any_line.new.self) c.args.bytes.now on.0 here c.in-Ok.behind.now line.0 on.1 on.2
          line.1 line.2;
    }

pub returns-in-Err-clause-stops : goal.returns-in-Err-clause-stops
returns-in-Err-clause-stops g c =
    let first = stage_of c.args.self.now in
    let middle = stage_of c.take_front_steps-before.new.self in
    let so_far = c.lines.invariant.taken in
    let steps = c.take_front_steps-before.ensures in
    let here = c.take_front_steps-before.result.now in
    let on = goes_more run_turns first (stage_of c.lines.self) middle c.args.bytes.now so_far.0 c.lines.rest.now steps.0 here
    so_far.1 so_far.2 steps.1 steps.2 in
    stops_here run_turns first middle (stage_of c.take_any_line.new.self) c.args.bytes.now on.0 here [] here c.in-Err.stop on.1 refl on.2 c.in-Err.ensures.err

pub lines-smaller : goal.lines-smaller
lines-smaller g c =
    let steps = c.take_front_steps-before.ensures in
    let line = c.in-Ok.ensures.ok in
    later_shorter c.lines.rest.now steps.0 c.take_front_steps-before.result.now c.in-Ok.behind.now line.0 steps.1 line.1

pub overflow_sub-count : goal.overflow_sub-count
overflow_sub-count g c =
    let so_far = c.lines.invariant.taken in
    let steps = c.take_front_steps-before.ensures in
    later_fits c.args.bytes.now so_far.0 c.lines.rest.now steps.0 c.take_front_steps-before.result.now so_far.1 steps.1

pub returns-in-Err-clause-count : goal.returns-in-Err-clause-count
returns-in-Err-clause-count g c = sub-le (length c.args.bytes.now) (length c.take_front_steps-before.result.now)
