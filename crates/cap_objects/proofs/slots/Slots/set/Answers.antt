use Rattle.std.proofs.{Common.{◌∙◌}, lemmas.{List.length-set, Option.slice_get_within}}
use Rattle.cap_objects.proofs.FreeLemmas.{free-set, in_slot, kept-there, objects-set, set-sets}
use Rattle.cap_objects.proofs.slots.Slots.set.Goals as goal

pub invariant_of-self : goal.invariant_of-self
invariant_of-self c =
    let s = c.args.self.now in
    let xs = s.objects.items in
    let x = in_slot xs c.args.slot c.requires.there in
    let set = set-sets xs c.args.slot c.args.object (slice_get_within xs c.args.slot x.0 x.1) in
    record {
      linked = free-set xs _ c.args.slot c.args.object set x.0 x.1 x.2 s.free s.linked (length-set xs c.args.slot c.args.object) c.requires.present;
    }

pub returns-clause-set : goal.returns-clause-set
returns-clause-set c =
    let xs = c.args.self.now.objects.items in
    let x = in_slot xs c.args.slot c.requires.there in
    let set = objects-set xs c.args.slot c.args.object (slice_get_within xs c.args.slot x.0 x.1) in
    (set.0 ∙ kept-there c.args.object c.requires.present, set.1)
