use Rattle.std.proofs.Common.{[], refl}
use Rattle.cap_judge.specs.{Readings.stage_of, Turns.log_turns}
use Rattle.cap_judge.proofs.TurnLemmas.{front_end}
use Rattle.cap_judge.proofs.judges.Judge.take_front_steps.Goals as goal
use Rattle.cap_turns.proofs.TurnLemmas.{goes_none}

pub returns-in-Body-clause-taken : goal.returns-in-Body-clause-taken
returns-in-Body-clause-taken g c = rw c.in-Body.is (let taken = c.take_steps.ensures.taken in (taken.0, taken.1, taken.2.goes))

pub returns-in-Body-clause-end : goal.returns-in-Body-clause-end
returns-in-Body-clause-end g c =
    front_end c.args.self.now.due c.take_steps.new.machine c.take_steps.result.0.now c.take_steps.result.1 c.in-Body.is
    c.take_steps.ensures.end

pub returns-in_default : goal.returns-in_default
returns-in_default g c = record { taken = ([], refl, goes_none log_turns (stage_of c.args.self.now)); end = tt; full = tt; same_room = refl }
