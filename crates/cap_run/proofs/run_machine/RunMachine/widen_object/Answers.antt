use Rattle.std.proofs.{Common.{◌∙◌, sym, ap, subst, arith}, Math.Path.fun_ext}
use Rattle.cap_machine.specs.Helds.{Held}
use Rattle.cap_objects.specs.{Counts.CountsAre, Extents.Objects, Handed.{held_of}, HandoutsIn.objects_of}
use Rattle.cap_run.specs.{Owned.AreWithin, RunOf.{run_owners, run_state}}
use Rattle.cap_run.proofs.ObjectLemmas.{counts-widened, some_and, widened-grows, within-widened}
use Rattle.cap_run.proofs.run_machine.RunMachine.widen_object.Goals as goal

pub invariant_of-self : goal.invariant_of-self
invariant_of-self g c =
    let s = c.args.self.now in
    let o = some_and (objects_of s.objects c.args.slot) _ c.requires.live in
    let set = c.in-Ok.ensures.ok o.0 o.1 in
    let after = objects_of c.widen.new.self in
    let grows = widened-grows o.0 c.args.base c.args.top in
    record {
      counted = subst (λ (h : Held). CountsAre (run_owners h s.specials) (λ n. held_of (after n))) (sym c.count_step.ensures.held)
          (counts-widened (run_owners s.machine s.specials) (objects_of s.objects) after c.args.slot o.0 _ o.1 grows.2 set s.counted);
      within = subst (λ (h : Held). AreWithin (run_state h s.specials) (run_owners h s.specials) after) (sym c.count_step.ensures.held)
          (within-widened (run_state s.machine s.specials) (run_owners s.machine s.specials) (objects_of s.objects) after c.args.slot o.0 _ o.1
          (grows.0, grows.1) set s.within);
      few =
          let count = c.widen.ensures.rest.0 in
          let steps = ap (λ (h : Held). h.steps) c.count_step.ensures.held in
          omega (arith, s.few, count, steps);
      asked = c.widen.ensures.rest.1 ∙ s.asked;
    }

pub invariant_of-self-in-Err-1 : goal.invariant_of-self-in-Err-1
invariant_of-self-in-Err-1 g c =
    let s = c.args.self.now in
    let same = fun_ext c.in-Err.ensures.err in
    record {
      counted = subst (λ (o : Objects). CountsAre (run_owners s.machine s.specials) (λ n. held_of (o n))) (sym same) s.counted;
      within = subst (λ (o : Objects). AreWithin (run_state s.machine s.specials) (run_owners s.machine s.specials) o) (sym same) s.within;
      few = let count = c.widen.ensures.rest.0 in omega (arith, s.few, count);
      asked = c.widen.ensures.rest.1 ∙ s.asked;
    }
