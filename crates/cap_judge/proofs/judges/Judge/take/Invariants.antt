use Rattle.std.proofs.Common.{◌≡◌, ◌++◌, ℕ, List, length}
use Rattle.cap_judge.specs.{Readings.{room_of, stage_of}, Turns.log_turns}
use Rattle.cap_judge.proofs.judges.Judge.take.Given as goal
use Rattle.cap_turns.specs.Turns.{Goes}

-- the lines so far are the front of the bytes
abbrev pub invariant-lines : goal.invariant-lines
invariant-lines g l = record {
  taken : (front : List ℕ) × (l.fn.bytes ≡ front ++ l.rest)
      × Goes log_turns (stage_of l.fn.self) front (stage_of l.self);
  same_room : room_of l.self ≡ room_of l.fn.self;
}

-- each line shortens the rest
abbrev pub decreases-lines : goal.decreases-lines
decreases-lines g l = length l.rest
