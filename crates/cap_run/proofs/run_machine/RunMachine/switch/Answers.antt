use Rattle.std.proofs.Common.{◌≡◌, ◌+◌, arith, ap, nat_le, ◌∙◌, rules}
use Rattle.std.proofs.lemmas.Bool.{cond-false, lt-leb}
use Rattle.cap_machine.specs.Helds.{Held}
use Rattle.cap_objects.specs.HandoutsIn.{objects_of}
use Rattle.cap_run.specs.RunChecks.{most_hart_lines}
use Rattle.cap_run.proofs.HartRunLemmas.{came, counts-moved, run-moved, within-moved}
use Rattle.cap_run.proofs.run_machine.RunMachine.switch.Goals as goal

pub invariant_of-self : goal.invariant_of-self
invariant_of-self g c =
    let s = c.args.self.now in
    let machine = c.switch.new.machine in
    let specials = c.switch.new.self in
    let told = c.switch.ensures in
    let moved = came s.machine machine s.specials specials c.args.hart c.switch.result told.state told.owners told.err told.err_caps told.err_labels in
    record {
      counted = counts-moved s.machine machine s.specials specials c.args.hart moved.0 moved.1 (objects_of s.objects) s.counted;
      within = within-moved s.machine machine s.specials specials c.args.hart moved.0 moved.1 (objects_of s.objects) s.within;
      few = let steps = told.rest.3 in omega (arith, s.few, steps);
      asked = s.asked;
    }

pub returns-in-Ok-clause-outcome : goal.returns-in-Ok-clause-outcome
returns-in-Ok-clause-outcome g c =
    let s = c.args.self.now in
    let told = c.in-Ok.ensures in (
      cond-false (nat_le most_hart_lines s.specials.lines) _ _ (lt-leb most_hart_lines s.specials.lines (search rules)),
      run-moved s.machine c.switch.new.machine s.specials c.switch.new.self c.args.hart s.objects told.rest told.harts told.state told.owners,
    )
