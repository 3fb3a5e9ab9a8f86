use Rattle.std.proofs.Common.{◌≡◌, ◌++◌, ℕ, List, length}
use Rattle.cap_judge.specs.Readings.{MakesSteps}
use Rattle.cap_judge.proofs.steps.take_usual.Given as goal

-- the steps so far are the front of the bytes
abbrev pub invariant-steps : goal.invariant-steps
invariant-steps g l = record {
  taken : (front : List ℕ) × (l.fn.bytes ≡ front ++ l.rest)
      × MakesSteps l.fn.machine front l.machine;
}

-- each step shortens the rest
abbrev pub decreases-steps : goal.decreases-steps
decreases-steps g l = length l.rest
