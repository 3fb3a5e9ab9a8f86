use Rattle.std.proofs.Common.{◌≡◌, Option, Some, refl, subst, sym}
use Rattle.cap_log.specs.declared.kinds.Step.{Step}
use Rattle.cap_run.specs.declared.ends.RunRefusal.{RunRefusal}
use Rattle.cap_run.specs.{Machines.{run_in}, RunChanges.usual_after, RunChecks.{Answers, usual_end, usual_wants}}
use Rattle.cap_run.proofs.UsualNumberLemmas.{asks_nothing}
use Rattle.cap_run.proofs.run_machine.RunMachine.make_among.Goals as goal

-- what is asked comes before the recorded result
pub returns-in-Some-clause-outcome : goal.returns-in-Some-clause-outcome
returns-in-Some-clause-outcome g c =
    let s = c.args.self.now in
    (subst (λ (step : Step). usual_end s.asks (run_in s) step ≡ Some c.in-Some.refusal) c.to_step-step.ensures.step c.in-Some.ensures.some, refl)

pub returns-in-None-clause-outcome : goal.returns-in-None-clause-outcome
returns-in-None-clause-outcome g c =
    let s = c.args.self.now in
    let old = run_in s in
    let step = g.P.Making.step c.args.making in
    let same = subst (λ (it : Step). usual_end s.asks old it ≡ usual_end (asks_nothing s.asks) old it) c.to_step-step.ensures.step c.in-None.ensures.none in
    subst (λ (end : Option RunRefusal). Answers end (usual_after old step) (usual_wants old step) old c.make_unasked.result (run_in c.make_unasked.new.self))
    (sym same) c.make_unasked.ensures.outcome
