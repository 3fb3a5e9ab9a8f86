use Rattle.std.proofs.Common.{◌∷◌, ◌++◌, None, Some, ap, arith, subst, sym}
use Rattle.cap_log.specs.Heads.{head_spelling}
use Rattle.cap_machine.specs.Helds.{Held}
use Rattle.cap_objects.specs.{Counts.CountsAre, Handed.held_of, HandoutsIn.objects_of}
use Rattle.cap_run.specs.{Owned.AreWithin, RunOf.{run_owners, run_state}}
use Rattle.cap_run.specs.{Machines.run_in, Numbers.numbered_run, RunChanges.usual_after, RunChecks.{usual_end, usual_wants}, StepLines.TakesStep}
use Rattle.cap_run.proofs.StepTakingLemmas.{err_same, step_begins}
use Rattle.cap_run.proofs.run_machine.RunMachine.take_derived.Goals as goal

-- a look at the machine leaves it as it was
pub invariant_of-self : goal.invariant_of-self
invariant_of-self g c =
    let s = c.args.self.now in
    let same = c.glance.ensures.same in
    record {
      counted = subst (λ (h : Held). CountsAre (run_owners h s.specials) (λ n. held_of (objects_of s.objects n))) (sym same) s.counted;
      within = subst (λ (h : Held). AreWithin (run_state h s.specials) (run_owners h s.specials) (objects_of s.objects)) (sym same) s.within;
      few = let steps = ap (λ (h : Held). h.steps) same in omega (arith, s.few, steps);
      asked = s.asked;
    }

pub returns-in-Ok : goal.returns-in-Ok
returns-in-Ok g c =
    let s = c.args.self.now in
    let n = c.make_among.new.self in
    subst (λ (held : Held). TakesStep s.asks (numbered_run held s.specials s.objects) (head_spelling g.D.Operands.HEAD ++ 32 ∷ c.args.operands.now)
    (Some c.in-Some.rest) n.asks (run_in n)) c.glance.ensures.same
    (_, step_begins _ _ _ c.in-Some.ensures.some, c.in-Ok.ensures.outcome.0, c.in-Ok.ensures.outcome.1, c.in-Ok.ensures.asks)

pub returns-in-Err : goal.returns-in-Err
returns-in-Err g c =
    let s = c.args.self.now in
    let n = c.make_among.new.self in
    let step = g.D.Operands.step c.in-Some.glanced.step in
    subst (λ (held : Held). TakesStep s.asks (numbered_run held s.specials s.objects) (head_spelling g.D.Operands.HEAD ++ 32 ∷ c.args.operands.now)
    None n.asks (run_in n)) c.glance.ensures.same (
      let old = numbered_run c.glance.new.machine s.specials s.objects in
          err_same (usual_end s.asks old step) (usual_after old step) (usual_wants old step) old c.in-Err.field-0 _ c.in-Err.ensures.outcome,
      c.in-Err.ensures.asks,
    )
