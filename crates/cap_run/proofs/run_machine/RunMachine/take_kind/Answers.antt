use Rattle.cap_run.specs.{Numbers.numbered_run, RunChanges.usual_after, RunChecks.{usual_end, usual_wants}}
use Rattle.cap_run.proofs.StepTakingLemmas.{err_same, step_begins}
use Rattle.cap_run.proofs.run_machine.RunMachine.take_kind.Goals as goal

pub returns-in-Ok : goal.returns-in-Ok
returns-in-Ok g c = (_, step_begins _ _ _ c.in-Some.ensures.some, c.in-Ok.ensures.outcome.0, c.in-Ok.ensures.outcome.1, c.in-Ok.ensures.asks)

pub returns-in-Err : goal.returns-in-Err
returns-in-Err g c =
    let s = c.args.self.now in
    let old = numbered_run s.machine s.specials s.objects in
    let step = g.I.Operands.step c.in-Some.taken.0 in
    (err_same (usual_end s.asks old step) (usual_after old step) (usual_wants old step) old c.in-Err.field-0 _ c.in-Err.ensures.outcome, c.in-Err.ensures.asks)
