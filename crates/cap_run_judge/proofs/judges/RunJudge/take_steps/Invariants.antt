use Rattle.std.proofs.Common.{◌≡◌, ◌++◌, ℕ, List, length}
use Rattle.cap_run_judge.specs.{declared.judges.Due.TheVariants.Body, Readings.stage_of, Turns.run_turns}
use Rattle.cap_run_judge.proofs.judges.RunJudge.take_steps.Given as goal
use Rattle.cap_turns.specs.Turns.{Goes}

-- the lines so far are the front of the bytes
abbrev pub invariant-lines : goal.invariant-lines
invariant-lines g l = record {
  taken : (front : List ℕ) × (l.fn.bytes ≡ front ++ l.rest)
      × Goes run_turns (stage_of l.fn.self) front (stage_of l.self);
  body : l.self.due ≡ Body;
}

-- each step shortens the rest
abbrev pub decreases-lines : goal.decreases-lines
decreases-lines g l = length l.rest
