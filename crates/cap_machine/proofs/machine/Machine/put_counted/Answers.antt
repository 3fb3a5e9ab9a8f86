use Rattle.std.proofs.Common.{rules, sym, subst}
use Rattle.cap_word.specs.Memory.{memory_of}
use Rattle.tagmem.specs.Granules.{Entry}
use Rattle.cap_machine.specs.Helds.{IsKept}
use Rattle.cap_machine.proofs.SoundLemmas.{kept_granule, sound_entry}
use Rattle.cap_machine.proofs.machine.Machine.put_counted.Goals as goal

pub invariant_of-self-2 : goal.invariant_of-self-2
invariant_of-self-2 g c =
    let machine = c.self.inside in
    let stored = c.args.stored in
    let entry : Entry = (stored.tag, memory_of stored.word.0, c.args.code) in
    subst (IsKept machine.registers machine.codes) (sym c.in_ok-put_capability.ensures.ok)
    (kept_granule machine.registers machine.codes (g.M.TaggedStore.contents machine.memory) c.args.granule entry c.self.invariant
    (sound_entry stored c.args.code (search rules) c.requires.sound) c.requires.coded)
