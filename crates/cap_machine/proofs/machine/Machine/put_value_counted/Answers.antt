use Rattle.std.proofs.Common.{false, refl, lit<, sym, subst}
use Rattle.cap_word.specs.Memory.{low_bytes}
use Rattle.tagmem.specs.Granules.{Entry, bytes_at, overwritten}
use Rattle.cap_machine.specs.Helds.{IsKept}
use Rattle.cap_machine.proofs.SoundLemmas.{kept_granule, untagged_sound}
use Rattle.cap_machine.proofs.machine.Machine.put_value_counted.Goals as goal

pub invariant_of-self-2 : goal.invariant_of-self-2
invariant_of-self-2 g c =
    let machine = c.self.inside in
    let old = g.M.TaggedStore.contents machine.memory in
    let entry : Entry = (false, overwritten (bytes_at old c.args.granule) c.args.byte_index (low_bytes c.args.datum.size c.args.datum.value), 0) in
    subst (IsKept machine.registers machine.codes) (sym c.in_ok-put_number.ensures.ok)
    (kept_granule machine.registers machine.codes old c.args.granule entry c.self.invariant (untagged_sound _) ((λ _. refl, λ _. refl), lit< tt))

pub invariant_of-self : goal.invariant_of-self
invariant_of-self g c =
    let machine = c.self.inside in
    subst (IsKept machine.registers machine.codes) (sym c.in_err-put_number.ensures.err) c.self.invariant
