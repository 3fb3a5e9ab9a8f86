use Rattle.std.proofs.Common.{[], ◌≡◌, None, refl, subst, sym, ◌∙◌}
use Rattle.cap_run.specs.{declared.asks.Asks.Asks, Numbers.numbered_run, RunChecks.usual_end, StepLines.MakesUsualSteps}
use Rattle.cap_run.proofs.{StepLineLemmas.makes-none, StepTakingLemmas.{line_shorter, makes_step}}
use Rattle.cap_run.proofs.run_machine.RunMachine.take_owned_steps.Goals as goal

pub steps-init : goal.steps-init
steps-init g c =
    let s = c.args.self.now in
    record { taken = ([], refl, makes-none s.asks (numbered_run s.machine s.specials s.objects)); asks = refl }

pub steps-preserved : goal.steps-preserved
steps-preserved g c =
    let s = c.args.self.now in
    let old = c.steps.self in
    let n = c.take_owned_step.new.self in
    let so_far = c.steps.invariant.taken in
    let made = c.in-Some.ensures in
    let run = numbered_run old.machine old.specials old.objects in
    record {
      taken = makes_step s.asks (numbered_run s.machine s.specials s.objects) run (numbered_run n.machine n.specials n.objects) c.args.bytes.now
          so_far.0 c.steps.rest.now c.in-Some.behind.now made.0 so_far.1 so_far.2 made.1
          (subst (λ (a : Asks). usual_end a run made.0 ≡ None) c.steps.invariant.asks made.2) made.3;
      asks = made.4 ∙ c.steps.invariant.asks;
    }

pub steps-smaller : goal.steps-smaller
steps-smaller g c = line_shorter _ _ _ c.in-Some.ensures.1

pub returns-in-None-clause-taken : goal.returns-in-None-clause-taken
returns-in-None-clause-taken g c =
    let s = c.args.self.now in
    let so_far = c.steps.invariant.taken in (
      so_far.0,
      so_far.1,
      subst (MakesUsualSteps s.asks (numbered_run s.machine s.specials s.objects) so_far.0) (sym c.in-None.ensures.0) so_far.2,
    )
