-- What a slot that is written, and one more, do to slots in runs.
use Rattle.std.specs.FinMap as finite
use Rattle.std.proofs.Common.{◌≡◌, ℕ, ◌<◌, List, map, set, take, sym, ap, ◌∙◌, length-set}
use Rattle.std.proofs.{Math.Seq.{map-set_same, take-set-lt}, lemmas.List.{map-set, Elements.All-set}}
use Rattle.tagmem.specs.{declared.list_store.Listed.Listed, Granules.IsStored}
use Rattle.tagmem.specs.Listed.{IsEntryAt, contents_of, entry_of, granules_of}
use Rattle.tagmem.proofs.{Indexes.{granule_at-get_or, nothing}, Listed.{contents_of-put, found-set}}
use Rattle.tagmem_lent.specs.{declared.lent_store.Slot.Slot, Lent.{AreRuns, entries_of, listed_of}}
use Rattle.tagmem_lent.proofs.Lent.{none_before}

-- a slot in use that is written is an entry that is
pub entries_of-set : (used : ℕ) (slots : List Slot) (index : ℕ) (slot : Slot) → index < used
    → entries_of used (set slots index slot) ≡ set (entries_of used slots) index (listed_of slot)
entries_of-set used slots index slot lt =
    ap (map listed_of) (take-set-lt used slots index slot lt) ∙ map-set listed_of (take used slots) index slot

module _ (entries : List Listed) (x : Listed) (index : ℕ) (runs : AreRuns entries) (at : IsEntryAt entries x.granule index) where
  -- an entry at the index of its granule's own keeps the runs, since it keeps the granules and how many there are
  pub AreRuns-set : IsStored x.granule (entry_of x) → AreRuns (set entries index x)
  AreRuns-set stored =
      let long = length-set entries index x in
      let same : granules_of (set entries index x) ≡ granules_of entries =
      map-set_same (λ listed. listed.granule) entries index x nothing (sym at.has_granule ∙ granule_at-get_or entries index nothing at.in_range) in
      record {
        apart = rw (long, same) runs.apart;
        rising = rw (long, same) runs.rising;
        stored = All-set (λ (listed : Listed). IsStored listed.granule (entry_of listed)) entries index x stored runs.stored;
      }

  -- and changes that granule alone
  pub contents_of-set_apart : contents_of (set entries index x) ≡ finite.insert (contents_of entries) x.granule (entry_of x)
  contents_of-set_apart = contents_of-put entries (set entries index x) x (found-set entries x index at (none_before entries runs.apart x.granule index at))
