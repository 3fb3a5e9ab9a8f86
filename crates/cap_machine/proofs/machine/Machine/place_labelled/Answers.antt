use Rattle.std.proofs.Common.{rules, subst, sym, true}
use Rattle.cap_word.specs.Memory.{memory_of}
use Rattle.cap_log.specs.{declared.lines.Place.TheVariants.{Register, Granule}, Lines.IsPlace}
use Rattle.tagmem.specs.Granules.{Entry, with_cap}
use Rattle.tagmem.proofs.Granules.{each-tried}
use Rattle.cap_machine.specs.{Helds.IsKept, Places.IsCoded, States.{granule_key, tagged}}
use Rattle.cap_machine.proofs.{CodeLemmas.root_coded, SoundLemmas.{kept_granule, kept_register, sound_entry}}
use Rattle.cap_machine.proofs.machine.Machine.place_labelled.Goals as goal

pub invariant_of-self : goal.invariant_of-self
invariant_of-self g c =
    let machine = c.self.inside in
    let number = c.in-Register.number in
    let fits = subst IsPlace c.in-Register.is c.requires.in_range in
    rw c.overwrite.ensures
    (kept_register machine.registers machine.codes (g.M.TaggedStore.contents machine.memory) number (tagged c.args.word) c.args.label
    c.self.invariant (search rules) fits (λ _. c.requires.sound) c.requires.coded)

pub invariant_of-self-in-Granule : goal.invariant_of-self-in-Granule
invariant_of-self-in-Granule g c =
    let machine = c.self.inside in
    let old = g.M.TaggedStore.contents machine.memory in
    let granule = c.in-Granule.granule in
    let fits = subst IsPlace c.in-Granule.is c.requires.in_range in
    let entry : Entry = (true, memory_of c.args.word.0, c.args.label) in
    each-tried c.put_capability.result (λ m. IsKept machine.registers machine.codes m) old
    (with_cap old granule true (memory_of c.args.word.0) c.args.label) _ c.put_capability.ensures.ok c.put_capability.ensures.err
    (kept_granule machine.registers machine.codes old granule entry c.self.invariant
    (sound_entry (tagged c.args.word) c.args.label (search rules) (λ _. c.requires.sound)) c.requires.coded)
    c.self.invariant
