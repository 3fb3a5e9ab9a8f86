use Rattle.std.proofs.Common.{◌∙◌, sym, ap, subst, arith}
use Rattle.cap_machine.specs.Helds.{Held}
use Rattle.cap_objects.specs.{Counts.CountsAre, Handed.held_of, HandoutsIn.objects_of}
use Rattle.cap_run.specs.{Owned.AreWithin, RunOf.{run_owners, run_state}}
use Rattle.cap_run.proofs.ObjectLemmas.{counts-freed, some_and, within-freed}
use Rattle.cap_run.proofs.run_machine.RunMachine.free_slot.Goals as goal

pub invariant_of-self : goal.invariant_of-self
invariant_of-self g c =
    let s = c.args.self.now in
    let o = some_and (objects_of s.objects c.args.slot) _ c.requires.live in
    let set = c.free.ensures.set o.0 o.1 in
    let after = objects_of c.free.new.self in
    record {
      counted = subst (λ (h : Held). CountsAre (run_owners h s.specials) (λ n. held_of (after n))) (sym c.count_step.ensures.held)
          (counts-freed (run_owners s.machine s.specials) (objects_of s.objects) after c.args.slot o.0 _ o.1 set s.counted);
      within = subst (λ (h : Held). AreWithin (run_state h s.specials) (run_owners h s.specials) after) (sym c.count_step.ensures.held)
          (within-freed (run_state s.machine s.specials) (run_owners s.machine s.specials) (objects_of s.objects) after c.args.slot o.0 _ o.1 set s.within);
      few =
          let count = c.free.ensures.rest.0 in
          let steps = ap (λ (h : Held). h.steps) c.count_step.ensures.held in
          omega (arith, s.few, count, steps);
      asked = c.free.ensures.rest.1 ∙ s.asked;
    }
