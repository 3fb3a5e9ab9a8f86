use Rattle.std.proofs.Common.{[], ℕ, List, Bor, Option, Ok, refl, subst}
use Rattle.cap_judge.specs.Readings.{TakesOne}
use Rattle.cap_judge.proofs.TurnLemmas.{makes_none, makes_one}
use Rattle.cap_judge.proofs.steps.take_usual.Goals as goal

pub steps-init : goal.steps-init
steps-init g c = record { taken = ([], refl, makes_none c.args.machine.now) }

pub steps-preserved : goal.steps-preserved
steps-preserved g c =
    let old = c.steps.machine in
    let new = c.take_step.new.machine in
    let so_far = c.steps.invariant.taken in
    let taken = subst (λ (t : Option (Bor (List ℕ))). TakesOne old c.steps.rest.now (Ok t) new) c.in-Ok-Some.field-0-is c.in-Ok-Some.ensures in
    record {
      taken = makes_one c.args.machine.now old new c.args.bytes.now so_far.0 c.steps.rest.now c.in-Ok-Some.behind.now
          so_far.1 so_far.2 taken;
    }
