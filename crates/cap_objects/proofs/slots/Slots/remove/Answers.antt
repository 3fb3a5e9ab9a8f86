use Rattle.std.proofs.{Common.{◌≡◌, ◌∙◌, ◌^◌, ◌-◌, true, refl, subst, sym, arith}, lemmas.{List.length-set, Option.slice_get_within}}
use Rattle.cap_objects.specs.{FreeSlots.AreFree}
use Rattle.cap_objects.proofs.FreeLemmas.{fitted, free-removed, in_slot, objects-set, set-sets}
use Rattle.cap_objects.proofs.slots.Slots.remove.Goals as goal

pub invariant_of-self : goal.invariant_of-self
invariant_of-self c =
    let s = c.args.self.now in
    let xs = s.objects.items in
    let x = in_slot xs c.args.slot c.requires in
    let low = slice_get_within xs c.args.slot x.0 x.1 in
    let gone = record c.index-object.result.now { held = 0; number = s.free; freed = true } in
    let set = set-sets xs c.args.slot gone low in
    let first : c.unwrap_or-self.result ≡ c.args.slot =
    c.unwrap_or-self.ensures
    ∙ fitted c.args.slot (2 ^ 32) (2 ^ 32 - 1) c.try_from.result (omega (arith, low, s.linked.few)) c.try_from.ensures in
    record {
      linked = subst (AreFree _) (sym first)
          (free-removed xs _ c.args.slot gone set x.0 x.1 x.2 s.free s.linked (length-set xs c.args.slot gone) refl refl);
    }

pub returns-clause-set : goal.returns-clause-set
returns-clause-set c =
    let xs = c.args.self.now.objects.items in
    let x = in_slot xs c.args.slot c.requires in
    objects-set xs c.args.slot _ (slice_get_within xs c.args.slot x.0 x.1)
