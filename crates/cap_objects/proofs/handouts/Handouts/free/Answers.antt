use Rattle.cap_objects.specs.IndexIn.{at}
use Rattle.cap_objects.specs.{HandoutsIn.objects_of, SlotsIn.present_in}
use Rattle.cap_objects.proofs.KeptLemmas.{kept-marked}
use Rattle.cap_objects.proofs.handouts.Handouts.free.Goals as goal

pub invariant_of-self : goal.invariant_of-self
invariant_of-self c =
    let s = c.args.self.now in
    record {
      kept = kept-marked s.keeps s.count (objects_of s) (at s.numbers) (at s.bases) s.kept c.args.slot c.get-object.result
          c.get-object.ensures (present_in c.set.new.self) c.args.moment (at c.remove_freed.new.bases)
          (rw c.get-object.ensures at c.requires) c.set.ensures.set c.remove_freed.ensures;
    }
