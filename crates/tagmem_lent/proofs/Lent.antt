-- What stands in slots that are in runs.
use Rattle.std.specs.FinMap as finite
use Rattle.std.proofs.Common.{◌≡◌, ℕ, ◌+◌, ◌-◌, ◌^◌, ◌<◌, ◌≤◌, List, [], length, get_or, take, drop, Some, None, min}
use Rattle.std.proofs.Common.{All, unwrap_or, Bool, true, false, not, ◌==◌, Option, ◌⊎◌, ⊎_elim, sym, refl, ap, subst}
use Rattle.std.proofs.Common.{◌∙◌, arith, get_or-take, get_or-drop, length-take-le, length-drop}
use Rattle.std.proofs.lemmas.{Bool.Decides.nat_tests, List.{get_or-map, length-map}}
use Rattle.std.proofs.lemmas.{Map.Keys.{below_from_sorted, sorted_from_strictly_increasing}, Option.none-some}
use Rattle.tagmem.specs.{declared.list_store.Listed.Listed, Granules.{AreStored, Entry, Granules, IsCodeFor, IsNextPut}}
use Rattle.tagmem.specs.Granules.{IsStored, blank, bytes_at, entry_at, overwritten, with_write}
use Rattle.tagmem.proofs.ListLaws.{NoneBefore, found_absent, get-contents_of, granule_at}
use Rattle.tagmem.specs.Listed.{AreApart, IsEntryAt, contents_of, entry_of, granules_of}
use Rattle.tagmem.proofs.{Granules.{IsStored-entry_at, IsStored-overwritten}, Indexes.nothing, Listed.found_present}
use Rattle.tagmem_lent.specs.declared.lent_store.Slot.{Slot}
use Rattle.tagmem_lent.specs.Lent.{AreRuns, IsLesser, IsGapIn, IsNextIn, IsUnused, entries_of, listed_of, part, run_end}
use Rattle.tagmem_lent.proofs.Runs.{run_end-le}

-- a slot to stand for one that is not there
abbrev pub no_slot : Slot
no_slot = record { granule = 0; code = 0; bytes = [] }

-- the granule of a slot
abbrev pub granule_of : Slot → ℕ
granule_of slot = slot.granule

pub length-entries_of : (used : ℕ) (slots : List Slot) → used ≤ length slots → length (entries_of used slots) ≡ used
length-entries_of used slots fits = length-map (take used slots) listed_of ∙ length-take-le used slots fits

-- granules rise within a run
pub run_rises : (entries : List Listed) → AreRuns entries → (level i j : ℕ) → run_end (length entries) (level + 1) ≤ i → i < j
    → j < run_end (length entries) level → granule_at entries i < granule_at entries j
run_rises entries runs level i j above lt below =
    let from = run_end (length entries) (level + 1) in
    let to = run_end (length entries) level in
    let run = part from to (granules_of entries) in
    let inside = run_end-le (length entries) level in
    let long : length run ≡ to - from = length-take-le (to - from) (drop from (granules_of entries)) (omega (
      arith,
      length-drop {A = ℕ},
      length-map entries (λ listed. listed.granule),
    )) in
    let there : (q : ℕ) → from ≤ q → q < to → get_or run (q - from) 0 ≡ granule_at entries q = λ q le less.
    let is : from + (q - from) ≡ q = omega arith in
    get_or-take (to - from) (drop from (granules_of entries)) (q - from) 0 (omega arith) ∙ get_or-drop from (granules_of entries) (q - from) 0
    ∙ ap (granule_at entries) is in
    let up = below_from_sorted run (i - from) (j - from) 0 (sorted_from_strictly_increasing run (runs.rising level)) (omega arith) (omega arith) in
    omega (arith, there i above (omega arith), there j (omega arith) below, up)

module _ (used : ℕ) (slots : List Slot) (fits : used ≤ length slots) where
  -- the entry at an index is that of the slot there
  pub entry_in : (i : ℕ) (d : Slot) (e : Listed) → i < used → get_or (entries_of used slots) i e ≡ listed_of (get_or slots i d)
  entry_in i d e in_use =
      get_or-map listed_of (take used slots) i d e (omega (arith, length-take-le used slots fits))
      ∙ ap listed_of (get_or-take used slots i d in_use)

  -- and so is its granule
  pub granule_in : (i : ℕ) (d : Slot) → i < used → granule_at (entries_of used slots) i ≡ (get_or slots i d).granule
  granule_in i d in_use =
      get_or-map (λ listed. listed.granule) (entries_of used slots) i nothing 0 (omega (arith, length-entries_of used slots fits))
      ∙ ap (λ (listed : Listed). listed.granule) (entry_in i d nothing in_use)

  -- the run of a digit
  module _ (level from to : ℕ) (is_from : from ≡ run_end used (level + 1)) (is_to : to ≡ run_end used level) where
    inside : to ≤ used
    inside = omega (arith, is_to, run_end-le used level)

    module _ (runs : AreRuns (entries_of used slots)) (k : ℕ) where
      rises : (i j : ℕ) → from ≤ i → i < j → j < to → granule_at (entries_of used slots) i < granule_at (entries_of used slots) j
      rises i j above lt below =
          let long = length-entries_of used slots fits in
          run_rises (entries_of used slots) runs level i j (omega (arith, above, is_from, ap (λ (n : ℕ). run_end n (level + 1)) long)) lt
          (omega (arith, below, is_to, ap (λ (n : ℕ). run_end n level) long))

      -- the slot behind a gap has the next granule of the run
      pub next_in_gap : (index : ℕ) → IsGapIn (entries_of used slots) from to k index → index < to
          → IsNextIn (entries_of used slots) from to k (Some (granule_at (entries_of used slots) index))
      next_in_gap index gap lt = (
        omega (arith, gap.higher_after index (omega arith) lt),
        (index, record { in_range = omega (arith, length-entries_of used slots fits, inside); has_granule = refl }),
        λ i above below ge.
            let same : i ≡ index → granule_at (entries_of used slots) i ≡ granule_at (entries_of used slots) index = ap (granule_at (entries_of used slots)) in
            grind (arith, gap.in_range.0, gap.lower_before i above, rises index i, same),
      )

-- nothing stands in a granule that no entry has
pub get_unused : (entries : List Listed) (k : ℕ) → IsUnused entries k → finite.get (contents_of entries) k ≡ None
get_unused entries k unused = get-contents_of entries k ∙ found_absent entries k unused

one_of_two : (a b : ℕ) → (min a b ≡ a) ⊎ (min a b ≡ b)
one_of_two a b = grind arith

-- in entries of which no two have the same granule
module _ (entries : List Listed) (apart : AreApart entries) where
  pub none_before : (k index : ℕ) → IsEntryAt entries k index → NoneBefore entries k index
  none_before k index at i lt same = apart i index lt at.in_range (same ∙ sym at.has_granule)

  -- what stands in a granule is what its entry says
  pub get_apart : (k index : ℕ) (d : Listed) → IsEntryAt entries k index → finite.get (contents_of entries) k ≡ Some (entry_of (get_or entries index d))
  get_apart k index d at = get-contents_of entries k ∙ found_present entries k index d at (none_before k index at)

  -- the next granule among all entries is the next that was put
  pub IsNextPut-whole : (k : ℕ) (next : Option ℕ) → IsNextIn entries 0 (length entries) k next → IsNextPut (contents_of entries) k next
  IsNextPut-whole k None none = λ q le. get_unused entries q (λ i lt same. omega (arith, none i (omega arith) lt, same))
  IsNextPut-whole k (Some next) is = (
    is.0,
    λ nothing_there. none-some _ (sym nothing_there ∙ get_apart next is.1.0 nothing is.1.1),
    λ q le lt. get_unused entries q (λ i in_range same. omega (arith, is.2 i (omega arith) in_range (omega (arith, same)), same)),
  )

-- the next granule of two parts is the lesser of theirs
pub IsNextIn-joined : (entries : List Listed) (middle to k : ℕ) (low high next : Option ℕ) → IsLesser low high next
    → IsNextIn entries 0 middle k low → IsNextIn entries middle to k high → IsNextIn entries 0 to k next
IsNextIn-joined entries middle to k None None next is low high =
    subst (IsNextIn entries 0 to k) (sym is) (λ i from below. grind (arith, low i, high i))
IsNextIn-joined entries middle to k None (Some b) next is low high =
    subst (IsNextIn entries 0 to k) (sym is) (high.0, high.1, λ i from below above. grind (arith, low i, high.2 i))
IsNextIn-joined entries middle to k (Some a) None next is low high =
    subst (IsNextIn entries 0 to k) (sym is) (low.0, low.1, λ i from below above. grind (arith, low.2 i, high i))
IsNextIn-joined entries middle to k (Some a) (Some b) next is low high =
    subst (IsNextIn entries 0 to k) (sym is) (
      omega (arith, low.0, high.0),
      ⊎_elim (λ (first : min a b ≡ a). subst (λ n. (i : ℕ) × IsEntryAt entries n i) (sym first) low.1)
          (λ (second : min a b ≡ b). subst (λ n. (i : ℕ) × IsEntryAt entries n i) (sym second) high.1) (one_of_two a b),
      λ i from below above. grind (arith, low.2 i, high.2 i),
    )

-- what stands in a granule is what its slot says
pub get_slot : (used : ℕ) (slots : List Slot) (fits : used ≤ length slots) → AreApart (entries_of used slots) → (k index : ℕ) (d : Slot)
    → IsEntryAt (entries_of used slots) k index → finite.get (contents_of (entries_of used slots)) k ≡ Some (entry_of (listed_of (get_or slots index d)))
get_slot used slots fits apart k index d at =
    get_apart (entries_of used slots) apart k index nothing at
    ∙ ap (λ (x : Listed). Some (entry_of x)) (entry_in used slots fits index d nothing (omega (arith, at.in_range, length-entries_of used slots fits)))

-- a code that goes with a tag is 0 just where there is none
tag_of_code : (tag : Bool) (code : ℕ) → IsCodeFor tag code → not (code == 0) ≡ tag
tag_of_code true code is = grind (arith, nat_tests, is.0)
tag_of_code false code is = grind (arith, nat_tests, is.1 refl)

-- what is written over a slot's bytes is written over what stands in its granule
pub over_slot : (used : ℕ) (slots : List Slot) (fits : used ≤ length slots) → AreApart (entries_of used slots) → (k index : ℕ) (d : Slot)
    → IsEntryAt (entries_of used slots) k index → (byte_index : ℕ) (bytes : List ℕ) → overwritten (get_or slots index d).bytes byte_index bytes
    ≡ overwritten (bytes_at (contents_of (entries_of used slots)) k) byte_index bytes
over_slot used slots fits apart k index d at byte_index bytes =
    ap (λ (b : List ℕ). overwritten b byte_index bytes) (sym (ap (λ (o : Option Entry). (unwrap_or o blank).1) (get_slot used slots fits apart k index d at)))

-- and over zeros, where nothing stands there
pub over_blank : (entries : List Listed) (k : ℕ) → IsUnused entries k → (byte_index : ℕ) (bytes : List ℕ)
    → overwritten blank.1 byte_index bytes ≡ overwritten (bytes_at (contents_of entries) k) byte_index bytes
over_blank entries k unused byte_index bytes =
    ap (λ (b : List ℕ). overwritten b byte_index bytes) (sym (ap (λ (o : Option Entry). (unwrap_or o blank).1) (get_unused entries k unused)))

-- a slot with what a write leaves in its granule
module _ (m : Granules) (granule : ℕ) (tag : Bool) (byte_index : ℕ) (bytes : List ℕ) (code : ℕ) (coded : IsCodeFor tag code)
    (written : List ℕ) (is : written ≡ overwritten (bytes_at m granule) byte_index bytes) where
  abbrev slot : Slot
  slot = record { granule = granule; code = code; bytes = written }

  entry_is : entry_of (listed_of slot) ≡ (tag, overwritten (bytes_at m granule) byte_index bytes, code)
  entry_is =
      ap (λ (b : Bool). (b, written, code)) (tag_of_code tag code coded) ∙ ap (λ (l : List ℕ). (tag, l, code)) is

  -- is the granule's
  pub IsStored-written : AreStored m → granule < 2 ^ 60 → byte_index + length bytes ≤ 16 → All (λ byte. byte < 256) bytes → code < 2 ^ 64
      → IsStored granule (entry_of (listed_of slot))
  IsStored-written stored in_memory inside fits small = subst (IsStored granule) (sym entry_is)
      (IsStored-overwritten granule (entry_at m granule) tag byte_index bytes code (IsStored-entry_at m stored granule in_memory) inside fits small coded)

  -- and makes the map that the write makes
  pub insert-written : finite.insert m granule (entry_of (listed_of slot)) ≡ with_write m granule tag byte_index bytes code
  insert-written = ap (finite.insert m granule) entry_is
