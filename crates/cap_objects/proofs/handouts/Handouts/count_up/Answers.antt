use Rattle.cap_objects.specs.IndexIn.{at}
use Rattle.std.proofs.Common.{◌+◌}
use Rattle.cap_objects.specs.{HandoutsIn.objects_of, SlotsIn.present_in}
use Rattle.cap_objects.proofs.KeptLemmas.{kept-counted}
use Rattle.cap_objects.proofs.handouts.Handouts.count_up.Goals as goal

pub invariant_of-self : goal.invariant_of-self
invariant_of-self c =
    let s = c.args.self.now in
    record {
      kept = kept-counted s.keeps s.count (objects_of s) (at s.numbers) (at s.bases) s.kept c.args.slot c.get-object.result
          c.get-object.ensures (present_in c.set.new.self) (c.get-object.result.held + 1) c.set.ensures.set;
    }
