use Rattle.std.proofs.Common.{sym, ap, subst, refl, arith}
use Rattle.cap_machine.specs.Helds.{Held}
use Rattle.cap_objects.specs.{Counts.CountsAre, Handed.held_of, HandoutsIn.objects_of}
use Rattle.cap_run.specs.{Owned.AreWithin, RunOf.{run_owners, run_state}}
use Rattle.cap_run.proofs.OwnerLemmas.{stepped}
use Rattle.cap_run.proofs.run_machine.RunMachine.count_step.Goals as goal

pub invariant_of-self : goal.invariant_of-self
invariant_of-self g c =
    let s = c.args.self.now in
    record {
      counted = subst (λ (h : Held). CountsAre (run_owners h s.specials) (λ n. held_of (objects_of s.objects n))) (sym c.count_step.ensures.held) s.counted;
      within = subst (λ (h : Held). AreWithin (run_state h s.specials) (run_owners h s.specials) (objects_of s.objects)) (sym c.count_step.ensures.held) s.within;
      few = let steps = ap (λ (h : Held). h.steps) c.count_step.ensures.held in omega (arith, s.few, steps);
      asked = s.asked;
    }

pub returns-clause-counts : goal.returns-clause-counts
returns-clause-counts g c =
    let s = c.args.self.now in
    record {
      state = ap (λ (h : Held). run_state h s.specials) c.count_step.ensures.held;
      owners = ap (λ (h : Held). run_owners h s.specials) c.count_step.ensures.held;
      objects = refl;
      rest = stepped s.machine s.machine c.count_step.new.self s.specials s.specials s.objects s.objects (refl, refl, refl, refl, refl) c.count_step.ensures.held refl refl;
    }
