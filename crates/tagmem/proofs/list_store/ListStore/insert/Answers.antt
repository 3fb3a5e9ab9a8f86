use Rattle.std.specs.FinMap as map
use Rattle.std.proofs.Common.{◌^◌, ◌<◌, arith, insert}
use Rattle.std.proofs.lemmas.List.Edits.{length-insert}
use Rattle.tagmem.specs.{Granules.AreStored, Listed.{IsRising, contents_of, entry_of}}
use Rattle.tagmem.proofs.{Granules.AreStored-put, Indexes.{contents_of-insert, IsRising-insert, tried}, ListLaws.len-contents_of}
use Rattle.tagmem.proofs.list_store.ListStore.insert.Goals as goal

-- the list with one entry more keeps the facts, and so does the list as it was
pub invariant_of-self : goal.invariant_of-self
invariant_of-self c =
    let s = c.args.self.now in
    let old = s.entries.items in
    let new = insert old c.args.index c.args.listed in
    let kept = c.insert.ensures.items in
    let longer = length-insert old c.args.index c.args.listed c.requires.absent.in_range in
    let rising = IsRising-insert old c.args.listed c.args.index s.rising c.requires.absent in
    record {
      rising = tried IsRising _ _ new old kept rising s.rising;
      stored = tried (λ l. AreStored (contents_of l)) _ _ new old kept (rw (contents_of-insert old c.args.listed c.args.index c.requires.absent)
          (AreStored-put (contents_of old) c.args.listed.granule (entry_of c.args.listed) c.requires.stored s.stored)) s.stored;
      fits = tried (λ l. map.len (contents_of l) < 2 ^ 32) _ _ new old kept
          (omega (arith, len-contents_of new rising, longer, c.requires.room, s.entries.ok.0)) s.fits;
    }

pub returns-clause-ok : goal.returns-clause-ok
returns-clause-ok c =
    let grown = contents_of-insert c.args.self.now.entries.items c.args.listed c.args.index c.requires.absent in
    grind (arith, c.map_err.ensures.variant, c.insert.ensures.items, grown)
