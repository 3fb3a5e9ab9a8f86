-- The entries that a `ListStore` keeps, and the map that they are. All of it is this profile's own.
use Rattle.std.specs.{Prelude.{◌≡◌, ◌≢◌, ℕ, ◌<◌, ◌≤◌, List, length, map, All, slice_index}, FinMap.from_entries}
use Rattle.std.specs.List.Sorted.{IsStrictlyIncreasing}
use Rattle.tagmem.specs.{declared.list_store.Listed.Listed, Granules.{Entry, Granules, IsStored}}

-- what stands in the granule
abbrev pub entry_of : Listed → Entry
entry_of listed = (listed.tag, listed.bytes, listed.code)

-- the granule, and what stands there
abbrev pub keyed : Listed → ℕ × Entry
keyed listed = (listed.granule, entry_of listed)

-- the map that a list of entries is
abbrev pub contents_of : List Listed → Granules
contents_of entries = from_entries (map keyed entries)

-- the granules of the entries, in their order
abbrev pub granules_of : List Listed → List ℕ
granules_of entries = map (λ listed. listed.granule) entries

-- no granule stands twice
abbrev pub AreApart : List Listed → Type 0
AreApart entries =
    (i j : ℕ) → i < j → j < length entries → slice_index (granules_of entries) i ≢ slice_index (granules_of entries) j

-- the granules rise, so that none stands twice
abbrev pub IsRising : List Listed → Type 0
IsRising entries = IsStrictlyIncreasing (granules_of entries)

-- each entry is a granule's
abbrev pub AllStored : List Listed → Type 0
AllStored entries = All (λ listed. IsStored listed.granule (entry_of listed)) entries

-- the entry at an index is the granule's
pub record IsEntryAt (entries : List Listed) (granule index : ℕ) : Type 0 where
  pub in_range : index < length entries
  pub has_granule : slice_index (granules_of entries) index ≡ granule

-- the granule has no entry, and its own would go at an index: lower granules before it, higher ones from it on
pub record IsGapFor (entries : List Listed) (granule index : ℕ) : Type 0 where
  pub in_range : index ≤ length entries
  pub lower_before : (i : ℕ) → i < index → slice_index (granules_of entries) i < granule
  pub higher_after : (i : ℕ) → index ≤ i → i < length entries → granule < slice_index (granules_of entries) i
