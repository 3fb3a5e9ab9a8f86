use Rattle.std.proofs.Common.{◌≡◌, ◌++◌, ℕ, List, [], ap, arith, length, length-append, refl, subst, sym}
use Rattle.tagmem.specs.declared.store.TaggedStore.{Ghosts}
use Rattle.cap_run.specs.StepLines.{MakesUsualSteps}
use Rattle.cap_run.specs.declared.run_machine.RunMachine.{RunMachine}
use Rattle.cap_run_judge.specs.declared.judges.RunJudge.{RunJudge}
use Rattle.cap_run_judge.specs.declared.judges.Due.TheVariants as dues
use Rattle.cap_run.specs.declared.asks.Asks.{Asks}
use Rattle.cap_run_judge.specs.{Readings.stage_of, Turns.{RunStage, run_turns}}
use Rattle.cap_run_judge.proofs.TurnLemmas.{body, later_shorter, steps_go}
use Rattle.cap_run_judge.proofs.judges.RunJudge.take_steps.Goals as goal
use Rattle.cap_run.specs.Machines.{run_in}
use Rattle.cap_turns.specs.Turns.{Goes}
use Rattle.cap_turns.proofs.{TurnLemmas.{goes_line, goes_more, goes_none}, LineLemmas.later_smaller}

pub lines-init : goal.lines-init
lines-init g c = record { taken = ([], refl, goes_none run_turns (stage_of c.args.self.now)); body = c.requires }

-- lines that only run logs have, and steps of version 2 after them
both_taken : {M : Type 0} {ghosts : Ghosts M} (first old : RunStage) (middle : RunJudge M ghosts) (new : RunMachine M ghosts)
    (bytes front more derived here steps rest : List ℕ) → bytes ≡ front ++ more → Goes run_turns first front old → more ≡ derived ++ here
    → Goes run_turns old derived (stage_of middle) → middle.due ≡ dues.Body → here ≡ steps ++ rest
    → MakesUsualSteps middle.machine.asks (run_in middle.machine) steps (run_in new) → new.asks ≡ middle.machine.asks
    → (fronts : List ℕ) × (bytes ≡ fronts ++ rest) × Goes run_turns first fronts (body new.asks (run_in new))
both_taken first old middle new bytes front more derived here steps rest is so_far derived_is on due steps_are makes same =
    let between = body middle.machine.asks (run_in middle.machine) in
    let one = goes_more run_turns first old between bytes front more derived here is so_far derived_is (rw due at on) in
    goes_more run_turns first between (body new.asks (run_in new)) bytes one.0 here steps rest one.1 one.2 steps_are
    (subst (λ (a : Asks). Goes run_turns between steps (body a (run_in new))) (sym same)
    (steps_go middle.machine.asks (run_in middle.machine) (run_in new) steps makes))

pub lines-preserved-then-behind-before : goal.lines-preserved-then-behind-before
lines-preserved-then-behind-before g c =
    let so_far = c.lines.invariant.taken in
    let derived = c.take_derivations-before.ensures.taken in
    let steps = c.take_steps-behind.ensures.taken in
    record {
      taken = rw c.take_derivations-before.ensures.body
          (both_taken (stage_of c.args.self.now) (stage_of c.lines.self) c.take_derivations-before.new.self c.take_steps-behind.new.self c.args.bytes.now
          so_far.0 c.lines.rest.now derived.0 c.take_derivations-before.result.now steps.0 c.take_steps-behind.result.now so_far.1 so_far.2
          derived.1 derived.2 c.take_derivations-before.ensures.body steps.1 steps.2 c.take_steps-behind.ensures.asks);
      body = c.take_derivations-before.ensures.body;
    }

pub lines-preserved : goal.lines-preserved
lines-preserved g c =
    let so_far = c.lines.invariant.taken in
    let derived = c.take_derivations-before.ensures.taken in
    let steps = c.take_steps-behind.ensures.taken in
    let fronts = both_taken (stage_of c.args.self.now) (stage_of c.lines.self) c.take_derivations-before.new.self c.take_steps-behind.new.self c.args.bytes.now
    so_far.0 c.lines.rest.now derived.0 c.take_derivations-before.result.now steps.0 c.take_steps-behind.result.now so_far.1 so_far.2
    derived.1 derived.2 c.take_derivations-before.ensures.body steps.1 steps.2 c.take_steps-behind.ensures.asks in
    let line = rw c.take_derivations-before.ensures.body at c.in-Some.ensures.some in
    record {
      taken = goes_line run_turns (stage_of c.args.self.now) (body c.take_steps-behind.new.self.asks (run_in c.take_steps-behind.new.self))
          (stage_of c.take_object_step.new.self) c.args.bytes.now fronts.0 c.take_steps-behind.result.now c.in-Some.next.now line.0 fronts.1 fronts.2
          line.1 line.2;
      body = c.take_object_step.ensures.body;
    }

pub returns-in-None : goal.returns-in-None
returns-in-None g c =
    let so_far = c.lines.invariant.taken in
    let derived = c.take_derivations-before.ensures.taken in
    let steps = c.take_steps-behind.ensures.taken in
    record {
      taken = rw (c.in-None.ensures.none, c.take_derivations-before.ensures.body) (both_taken (stage_of c.args.self.now) (stage_of c.lines.self) c.take_derivations-before.new.self c.take_steps-behind.new.self c.args.bytes.now
          so_far.0 c.lines.rest.now derived.0 c.take_derivations-before.result.now steps.0 c.take_steps-behind.result.now so_far.1 so_far.2
          derived.1 derived.2 c.take_derivations-before.ensures.body steps.1 steps.2 c.take_steps-behind.ensures.asks);
    }

pub lines-smaller-then-behind-before : goal.lines-smaller-then-behind-before
lines-smaller-then-behind-before g c =
    let derived = c.take_derivations-before.ensures.taken in
    let taken = c.take_steps-behind.ensures.taken in
    later_smaller c.lines.rest.now derived.0 c.take_derivations-before.result.now taken.0 c.take_steps-behind.result.now derived.1 taken.1
    c.if-behind-before.true

pub lines-smaller : goal.lines-smaller
lines-smaller g c =
    let derived = c.take_derivations-before.ensures.taken in
    let taken = c.take_steps-behind.ensures.taken in
    let line = c.in-Some.ensures.some in
    let shorter = later_shorter c.take_derivations-before.result.now taken.0 c.take_steps-behind.result.now c.in-Some.next.now line.0 taken.1 line.1 in
    let all = length-append derived.0 c.take_derivations-before.result.now in
    let same = ap length derived.1 in
    omega (arith, shorter, all, same)
