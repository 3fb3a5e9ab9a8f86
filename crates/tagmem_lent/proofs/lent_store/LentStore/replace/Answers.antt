use Rattle.std.proofs.Common.{◌<◌, ap, sym, subst, ◌∙◌, arith, length-set}
use Rattle.tagmem.specs.Listed.{contents_of}
use Rattle.tagmem_lent.specs.{declared.lent_store.Slot.Slot, Lent.{AreRuns, listed_of}, LentStores.in_use}
use Rattle.tagmem_lent.proofs.{Lent.length-entries_of, Relent.{AreRuns-set, contents_of-set_apart, entries_of-set}}
use Rattle.tagmem_lent.proofs.lent_store.LentStore.replace.Goals as goal

-- the granules, and how many, stay
pub invariant_of-self : goal.invariant_of-self
invariant_of-self c =
    let s = c.args.self.now in
    let lt : c.args.index < s.used = omega (arith, c.requires.found.in_range, length-entries_of s.used s.slots.now s.fits) in
    record {
      fits = omega (arith, length-set {A = Slot}, s.fits);
      counted = s.counted;
      runs = subst AreRuns (sym (entries_of-set s.used s.slots.now c.args.index c.args.slot lt))
          (AreRuns-set (in_use s) (listed_of c.args.slot) c.args.index s.runs c.requires.found c.requires.stored);
    }

pub returns-clause-contents : goal.returns-clause-contents
returns-clause-contents c =
    let s = c.args.self.now in
    let lt : c.args.index < s.used = omega (arith, c.requires.found.in_range, length-entries_of s.used s.slots.now s.fits) in
    ap contents_of (entries_of-set s.used s.slots.now c.args.index c.args.slot lt)
    ∙ contents_of-set_apart (in_use s) (listed_of c.args.slot) c.args.index s.runs c.requires.found
