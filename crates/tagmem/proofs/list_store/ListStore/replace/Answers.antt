use Rattle.std.proofs.Common.{arith, length-set, set}
use Rattle.tagmem.specs.{declared.list_store.Listed.Listed, Listed.{contents_of, entry_of}}
use Rattle.tagmem.proofs.{Granules.AreStored-put, Indexes.{contents_of-set, IsRising-set}, ListLaws.len-contents_of}
use Rattle.tagmem.proofs.list_store.ListStore.replace.Goals as goal

-- the granules, and how many, stay
pub invariant_of-self : goal.invariant_of-self
invariant_of-self c =
    let s = c.args.self.now in
    let old = s.entries.items in
    let rising = IsRising-set old c.args.listed c.args.index s.rising c.requires.found in
    record {
      rising = rising;
      stored = rw (contents_of-set old c.args.listed c.args.index s.rising c.requires.found)
          (AreStored-put (contents_of old) c.args.listed.granule (entry_of c.args.listed) c.requires.stored s.stored);
      fits = omega (arith, length-set {A = Listed}, len-contents_of old s.rising, len-contents_of (set old c.args.index c.args.listed) rising, s.fits);
    }

pub returns : goal.returns
returns c = contents_of-set c.args.self.now.entries.items c.args.listed c.args.index c.args.self.now.rising c.requires.found
