use Rattle.std.proofs.Common.{◌≡◌, ◌∙◌, [], None, Some, refl, rules}
use Rattle.cap_judge.specs.{Readings.stage_of, Turns.log_turns}
use Rattle.cap_judge.proofs.judges.Judge.take.Goals as goal
use Rattle.cap_turns.proofs.TurnLemmas.{goes_more, goes_none, stops_here}

pub lines-init : goal.lines-init
lines-init g c = record { taken = ([], refl, goes_none log_turns (stage_of c.args.self.now)); same_room = refl }

pub lines-preserved : goal.lines-preserved
lines-preserved g c =
    let so_far = c.lines.invariant.taken in
    let taken = c.take_steps_and_line-stop.ensures.taken in
    let none : c.take_steps_and_line-stop.result.1 ≡ None = search rules in
    let on = rw none at taken.2 in
    record {
      taken = goes_more log_turns (stage_of c.args.self.now) (stage_of c.lines.self) (stage_of c.take_steps_and_line-stop.new.self) c.args.bytes.now so_far.0
          c.lines.rest.now taken.0 c.take_steps_and_line-stop.result.0.now so_far.1 so_far.2 taken.1 on.1;
      same_room = c.take_steps_and_line-stop.ensures.same_room ∙ c.lines.invariant.same_room;
    }

pub returns-in-Some-clause-stops : goal.returns-in-Some-clause-stops
returns-in-Some-clause-stops g c =
    let so_far = c.lines.invariant.taken in
    let taken = c.take_steps_and_line-stop.ensures.taken in
    let some : c.take_steps_and_line-stop.result.1 ≡ Some c.in-Some.stop = search rules in
    let stops = rw some at taken.2 in
    stops_here log_turns (stage_of c.args.self.now) (stage_of c.lines.self) (stage_of c.take_steps_and_line-stop.new.self) c.args.bytes.now so_far.0
    c.lines.rest.now
    taken.0 c.take_steps_and_line-stop.result.0.now c.in-Some.stop so_far.1 taken.1 so_far.2 stops
