-- The slots that a `LentStore` keeps, and how they stand. All of it is this profile's own.
use Rattle.std.specs.Prelude.{◌≡◌, ◌≢◌, ℕ, ◌+◌, ◌-◌, ◌*◌, ◌/◌, ◌^◌, ◌<◌, ◌≤◌, not, ◌==◌, List, length, map, take, drop}
use Rattle.std.specs.{Prelude.{min, slice_index, slice_index_or, Option, Some, None}, List.Sorted.IsStrictlyIncreasing}
use Rattle.tagmem.specs.{declared.list_store.Listed.Listed, Listed.{AllStored, AreApart, IsEntryAt, granules_of}}
use Rattle.tagmem_lent.specs.declared.lent_store.Slot.{Slot}

-- the entry that a slot is: it has a tag just where its code isn't 0
abbrev pub listed_of : Slot → Listed
listed_of slot = record { granule = slot.granule; tag = not (slot.code == 0); bytes = slot.bytes; code = slot.code }

-- the entries that the first slots are
abbrev pub entries_of : ℕ → List Slot → List Listed
entries_of used slots = map listed_of (take used slots)

-- where the run of a digit of a number in base 16 ends, and that of the digit below begins
abbrev pub run_end : ℕ → ℕ → ℕ
run_end number level = number / 2 ^ (4 * level) * 2 ^ (4 * level)

-- the part of a list from an index to another
abbrev pub part : {X : Type 0} → ℕ → ℕ → List X → List X
part from to items = take (to - from) (drop from items)

-- entries in runs: no granule stands twice, the granules of each run rise, and each entry is a granule's
pub record AreRuns (entries : List Listed) : Type 0 where
  pub apart : AreApart entries
  pub rising : (level : ℕ) → IsStrictlyIncreasing (part (run_end (length entries) (level + 1)) (run_end (length entries) level) (granules_of entries))
  pub stored : AllStored entries

-- no entry is the granule's
abbrev pub IsUnused : List Listed → ℕ → Type 0
IsUnused entries granule = (i : ℕ) → i < length entries → slice_index (granules_of entries) i ≢ granule

-- no entry of a part is the granule's, and an index parts the lower ones from the higher ones
pub record IsGapIn (entries : List Listed) (from to granule index : ℕ) : Type 0 where
  pub in_range : (from ≤ index) × (index ≤ to)
  pub lower_before : (i : ℕ) → from ≤ i → i < index → slice_index (granules_of entries) i < granule
  pub higher_after : (i : ℕ) → index ≤ i → i < to → granule < slice_index (granules_of entries) i

-- the index in a run of the last granule that isn't above a number, or 0 where all of them are
pub record IsLastAtMost (run : List Slot) (granule index : ℕ) : Type 0 where
  pub in_range : index < length run
  pub at_most : (d : Slot) → 0 < index → (slice_index_or run index d).granule ≤ granule
  pub higher_after : (i : ℕ) (d : Slot) → index < i → i < length run → granule < (slice_index_or run i d).granule

-- an entry's granule that is the least at or above a number in a part, where the part has one
abbrev pub IsNextIn : List Listed → ℕ → ℕ → ℕ → Option ℕ → Type 0
IsNextIn entries from to granule None = (i : ℕ) → from ≤ i → i < to → slice_index (granules_of entries) i < granule
IsNextIn entries from to granule (Some next) =
    (granule ≤ next) × ((i : ℕ) × IsEntryAt entries next i)
    × ((i : ℕ) → from ≤ i → i < to → granule ≤ slice_index (granules_of entries) i → next ≤ slice_index (granules_of entries) i)

-- the lesser of two numbers that may be missing
abbrev pub IsLesser : Option ℕ → Option ℕ → Option ℕ → Type 0
IsLesser None other lesser = lesser ≡ other
IsLesser (Some one) None lesser = lesser ≡ Some one
IsLesser (Some one) (Some other) lesser = lesser ≡ Some (min one other)
