use Rattle.std.proofs.Common.{ap, arith, subst, sym}
use Rattle.cap_machine.specs.Helds.{Held}
use Rattle.cap_objects.specs.{Counts.CountsAre, Handed.held_of, HandoutsIn.objects_of}
use Rattle.cap_run.specs.{Owned.AreWithin, RunOf.{run_owners, run_state}}
use Rattle.cap_run.proofs.run_machine.RunMachine.follow.Goals as goal

pub invariant_of-self : goal.invariant_of-self
invariant_of-self g c =
    let s = c.args.self.now in
    let same = sym c.follow.ensures.held in
    record {
      counted = subst (λ (h : Held). CountsAre (run_owners h s.specials) (λ n. held_of (objects_of s.objects n))) same s.counted;
      within = subst (λ (h : Held). AreWithin (run_state h s.specials) (run_owners h s.specials) (objects_of s.objects)) same s.within;
      few = let steps = ap (λ (h : Held). h.steps) c.follow.ensures.held in omega (arith, s.few, steps);
      asked = s.asked;
    }
