use Rattle.std.proofs.{Common.{◌∙◌, refl, sym, ap, subst, arith, ◌+◌}, Math.Path.fun_ext}
use Rattle.cap_machine.specs.Helds.{Held}
use Rattle.cap_objects.specs.{Counts.CountsAre, Extents.Objects, Handed.{handed_out, held_of}, HandoutsIn.objects_of}
use Rattle.cap_run.specs.{Owned.AreWithin, RunOf.{run_owners, run_state}}
use Rattle.cap_run.proofs.ObjectLemmas.{counts-added, within-added}
use Rattle.cap_run.proofs.run_machine.RunMachine.add_object.Goals as goal

pub invariant_of-self : goal.invariant_of-self
invariant_of-self g c =
    let s = c.args.self.now in
    let adds = c.in-Ok.ensures.ok in
    let new = handed_out (s.objects.count + 1) c.moment-moment.result c.args.base c.args.top in
    let after = objects_of c.hand_out.new.self in
    record {
      counted = subst (λ (h : Held). CountsAre (run_owners h s.specials) (λ n. held_of (after n))) (sym c.count_step.ensures.held)
          (counts-added (run_owners s.machine s.specials) (objects_of s.objects) after c.in-Ok.slot _ adds.0 adds.1 refl s.counted);
      within = subst (λ (h : Held). AreWithin (run_state h s.specials) (run_owners h s.specials) after) (sym c.count_step.ensures.held)
          (within-added s.machine s.specials (objects_of s.objects) s.specials.registers.sized.1 s.counted c.in-Ok.slot _ after adds.0 adds.1 s.within);
      few =
          let count = c.in-Ok.ensures.count in
          let steps = ap (λ (h : Held). h.steps) c.count_step.ensures.held in
          omega (arith, s.few, count, steps);
      asked = c.hand_out.ensures.keeps ∙ s.asked;
    }

pub invariant_of-self-in-Err-1 : goal.invariant_of-self-in-Err-1
invariant_of-self-in-Err-1 g c =
    let s = c.args.self.now in
    let same = fun_ext c.in-Err.ensures.err in
    record {
      counted = subst (λ (o : Objects). CountsAre (run_owners s.machine s.specials) (λ n. held_of (o n))) (sym same) s.counted;
      within = subst (λ (o : Objects). AreWithin (run_state s.machine s.specials) (run_owners s.machine s.specials) o) (sym same) s.within;
      few = let count = c.in-Err.ensures.err_count in omega (arith, s.few, count);
      asked = c.hand_out.ensures.keeps ∙ s.asked;
    }
