use Rattle.cap_objects.specs.IndexIn.{at}
use Rattle.cap_objects.specs.HandoutsIn.{objects_of}
use Rattle.cap_objects.specs.SlotsIn.{present_in}
use Rattle.cap_objects.proofs.KeptLemmas.{kept-gone}
use Rattle.cap_objects.proofs.handouts.Handouts.let_go.Goals as goal

pub invariant_of-self : goal.invariant_of-self
invariant_of-self c =
    let s = c.args.self.now in
    record {
      kept = kept-gone s.keeps s.count (objects_of s) (at s.numbers) (at s.bases) s.kept c.args.slot c.get-object.result
          c.get-object.ensures (present_in c.remove.new.self) (at c.remove_keys.new.numbers) (at c.remove_keys.new.bases)
          c.remove.ensures.set c.remove_keys.ensures.number c.remove_keys.ensures.base;
    }
