use Rattle.std.proofs.Common.{ℕ, [], Option, refl, subst, sym, ◌∙◌}
use Rattle.cap_streams.specs.Written.{Writes-nothing}
use Rattle.cap_run_report.specs.StepParts.{AreAskedExtentLines}
use Rattle.cap_run_report.proofs.object_steps.put_asked_extent.Goals as goal
use Rattle.cap_run.specs.Machines.{run_in}

pub returns-in-Some-clause-written : goal.returns-in-Some-clause-written
returns-in-Some-clause-written g c =
    let told = c.put_extent.ensures.written in (
      told.0,
      subst (λ (o : Option (ℕ × ℕ)). AreAskedExtentLines (run_in c.args.machine.now) c.args.number c.args.freed o told.0)
          (sym c.in-Some.is ∙ c.asked_extent.ensures) told.1,
      told.2,
    )

pub returns-in-None-clause-written : goal.returns-in-None-clause-written
returns-in-None-clause-written g c = (
  [],
  subst (λ (o : Option (ℕ × ℕ)). AreAskedExtentLines (run_in c.args.machine.now) c.args.number c.args.freed o [])
      (sym c.in-None.is ∙ c.asked_extent.ensures) refl,
  Writes-nothing,
)
