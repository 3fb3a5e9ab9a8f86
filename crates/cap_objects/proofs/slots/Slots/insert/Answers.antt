use Rattle.std.proofs.{Common.{◌∙◌, ap, subst, option_and_then}, lemmas.{List.length-set, Option.slice_get_within}}
use Rattle.cap_objects.specs.{FreeSlots.AreFree, Indexes.kept}
use Rattle.cap_objects.proofs.FreeLemmas.{all-present, free-used, kept-gone, kept-there, objects-set, set-sets}
use Rattle.cap_objects.proofs.slots.Slots.insert.Goals as goal

pub invariant_of-self : goal.invariant_of-self
invariant_of-self c =
    let s = c.args.self.now in
    let xs = s.objects.items in
    let x = c.in-Some.ensures in
    let set = set-sets xs s.free c.args.object (slice_get_within xs s.free x.0 x.1) in
    record {
      linked = subst (AreFree _) x.3
          (free-used xs _ s.free c.args.object set x.0 x.1 c.requires s.linked (length-set xs s.free c.args.object));
    }

pub push-requires-clause-full : goal.push-requires-clause-full
push-requires-clause-full c = all-present c.args.self.now.objects.items c.args.self.now.free c.args.self.now.linked c.in-None.ensures

pub returns-in-Some-clause-ok : goal.returns-in-Some-clause-ok
returns-in-Some-clause-ok c =
    let s = c.args.self.now in
    let xs = s.objects.items in
    let x = c.in-Some.ensures in
    let set = objects-set xs s.free c.args.object (slice_get_within xs s.free x.0 x.1) in
    (ap (option_and_then kept) x.1 ∙ kept-gone x.0 x.2, (set.0 ∙ kept-there c.args.object c.requires, set.1))
