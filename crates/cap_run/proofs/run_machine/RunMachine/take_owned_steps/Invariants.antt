use Rattle.std.proofs.Common.{◌≡◌, ◌++◌, ℕ, List, length}
use Rattle.cap_run.specs.{Numbers.numbered_run, StepLines.MakesUsualSteps}
use Rattle.cap_run.proofs.run_machine.RunMachine.take_owned_steps.Given as goal

-- the steps so far are the front of the bytes
abbrev pub invariant-steps : goal.invariant-steps
invariant-steps g l = record {
  taken : (front : List ℕ) × (l.fn.bytes ≡ front ++ l.rest)
      × MakesUsualSteps l.fn.self.asks (numbered_run l.fn.self.machine l.fn.self.specials l.fn.self.objects) front
      (numbered_run l.self.machine l.self.specials l.self.objects);
  asks : l.self.asks ≡ l.fn.self.asks;
}

-- each step shortens the rest
abbrev pub decreases-steps : goal.decreases-steps
decreases-steps g l = length l.rest
