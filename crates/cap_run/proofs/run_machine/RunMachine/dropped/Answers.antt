use Rattle.std.proofs.Common.{subst, sym}
use Rattle.std.specs.Prelude.{false}
use Rattle.cap_run.specs.{Numbers.numbered_run, RunChanges.run_after, RunChecks.Answers, RunSteps.step_limit}
use Rattle.cap_run_log.specs.declared.lines.{RunPlace.RunPlace, RunStep.TheVariants.Drop}
use Rattle.cap_run.proofs.run_machine.RunMachine.dropped.Goals as goal

pub returns-in-General-clause-outcome : goal.returns-in-General-clause-outcome
returns-in-General-clause-outcome g c =
    let s = c.args.self.now in
    let n = c.drop_register.new.self in
    let old = numbered_run s.machine s.specials s.objects in
    subst (λ (place : RunPlace). Answers (step_limit old) (run_after old (Drop place)) false old c.drop_register.result (numbered_run n.machine n.specials n.objects))
    (sym c.in-General.is) c.drop_register.ensures.outcome

pub returns-in-Special-clause-outcome : goal.returns-in-Special-clause-outcome
returns-in-Special-clause-outcome g c =
    let s = c.args.self.now in
    let n = c.drop_register-in-Special.new.self in
    let old = numbered_run s.machine s.specials s.objects in
    subst (λ (place : RunPlace). Answers (step_limit old) (run_after old (Drop place)) false old c.drop_register-in-Special.result (numbered_run n.machine n.specials n.objects))
    (sym c.in-Special.is) c.drop_register-in-Special.ensures.outcome
