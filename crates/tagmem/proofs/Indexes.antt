-- What a search finds among entries whose granules rise, and what an edit at that index does.
use Rattle.std.specs.List.Sorted.{IsSearchInRange, IsBinarySearchResult, IsNonDecreasingBy, IsStrictlyIncreasing}
use Rattle.std.specs.Ordering.{ordering_index}
use Rattle.std.specs.FinMap as finite
use Rattle.std.proofs.Common.{◌≡◌, ℕ, ◌+◌, ◌-◌, ◌<◌, ◌≤◌, List, [], length, get_or, set, Some}
use Rattle.std.proofs.Common.{None, false, Result, Ok, Err, IfOk, IfErr, OnErr, Bool, cond}
use Rattle.std.proofs.{Common.{sym, ◌∙◌, arith, insert, nat_cmp}, Math.Seq.map-set_same}
use Rattle.std.proofs.lemmas.{Bool.Decides.nat_tests, Cmp.ranked, List.{get_or-map, length-map, map-append, take-map}}
use Rattle.std.proofs.lemmas.List.{drop-map, Edits.{length-insert, get_or-insert_below, get_or-insert_at}}
use Rattle.std.proofs.lemmas.List.{Edits.get_or-insert_above}
use Rattle.std.proofs.lemmas.{List.Sorted.IsNonDecreasingBy-from_default, Option.none-some}
use Rattle.tagmem.specs.{declared.list_store.Listed.Listed, Granules.IsNextPut}
use Rattle.tagmem.proofs.ListLaws.{granule_at, get-contents_of, NoneBefore, found_absent, RisesFar, rises_far}
use Rattle.tagmem.specs.Listed.{entry_of, contents_of, granules_of, IsRising, IsEntryAt, IsGapFor}
use Rattle.tagmem.proofs.Listed.{contents_of-put, found_present, found-set, found-insert}

-- an entry to stand for one that is not there
pub nothing : Listed
nothing = record { granule = 0; tag = false; bytes = []; code = 0 }

-- the granule at an index is that of the entry there
pub granule_at-get_or : (l : List Listed) (i : ℕ) (d : Listed) → i < length l → granule_at l i ≡ (get_or l i d).granule
granule_at-get_or l i d in_range = get_or-map (λ listed. listed.granule) l i d 0 in_range

-- a binary search among entries ends at the granule's entry, or at the gap for it
pub searched : (l : List Listed) → RisesFar l → (k : ℕ) (r : Result ℕ ℕ) → IsSearchInRange r (length l)
    → IsBinarySearchResult (λ listed. nat_cmp listed.granule k) l r
    → record { found : IfOk r (IsEntryAt l k); absent : IfErr r (IsGapFor l k) }
searched l far k (Ok index) in_range equal = record {
  found = record { in_range = in_range; has_granule = granule_at-get_or l index nothing in_range ∙ ranked _ k _ (sym (equal nothing)) };
  absent = tt;
}
searched l far k (Err index) in_range parted = record {
  found = tt;
  absent = record {
    in_range = in_range;
    lower_before = λ j lt. rw (granule_at-get_or l j nothing (omega arith)) (ranked _ k _ (sym ((parted rise).0 j nothing (omega arith) lt)));
    higher_after = λ j le lt. rw (granule_at-get_or l j nothing lt) (ranked _ k _ (sym ((parted rise).1 j nothing le lt)));
  };
}
  where
    -- the comparisons with k rise along the list, as a binary search asks
    rise : IsNonDecreasingBy (λ listed. ordering_index (nat_cmp listed.granule k)) l
    rise = IsNonDecreasingBy-from_default (λ listed. ordering_index (nat_cmp listed.granule k)) l nothing (λ i j le in_range.
        grind (arith, nat_tests, far i j, granule_at-get_or l i nothing, granule_at-get_or l j nothing))

module _ (l : List Listed) (rising : IsRising l) (k index : ℕ) (at : IsEntryAt l k index) where
  -- the granules before the index are lower, so none is k
  none_before_at : NoneBefore l k index
  none_before_at j lt same = omega (arith, rises_far l rising j index lt at.in_range, at.has_granule)

  -- what stands in the granule is what its entry says
  pub get_at : (d : Listed) → finite.get (contents_of l) k ≡ Some (entry_of (get_or l index d))
  get_at d = get-contents_of l k ∙ found_present l k index d at none_before_at

  -- the entry that is read there is the granule's, and says what stands in it
  pub read_at : (x : Listed) → x ≡ get_or l index x → record {
    granule_is : x.granule ≡ k;
    entry_is : finite.get (contents_of l) k ≡ Some (entry_of x);
  }
  read_at x read = record { granule_is = grind (arith, granule_at-get_or l index x); entry_is = grind (arith, get_at x) }

-- a number between those below it and those above it keeps numbers rising
rising_insert : (gs : List ℕ) (k index : ℕ) → IsStrictlyIncreasing gs → index ≤ length gs → ((i : ℕ) → i < index → get_or gs i 0 < k)
    → ((i : ℕ) → index ≤ i → i < length gs → k < get_or gs i 0) → IsStrictlyIncreasing (insert gs index k)
rising_insert gs k index rising in_range below above i lt =
    let lower = get_or-insert_below gs index k 0 in
    let here = get_or-insert_at gs index k 0 in
    let higher = get_or-insert_above gs index k 0 in
    let longer = length-insert gs index k in
    grind (arith, longer, lower i, lower (i + 1), here, higher i, higher (i - 1), rising (i - 1), rising i, below i, above i)

-- a granule that has a gap was never put
pub get_in_gap : (l : List Listed) (k index : ℕ) → IsGapFor l k index → finite.get (contents_of l) k ≡ None
get_in_gap l k index gap = get-contents_of l k ∙ found_absent l k (λ j lt same. grind (arith, gap.lower_before j, gap.higher_after j))

module _ (l : List Listed) (x : Listed) (index : ℕ) where
  -- an entry at the index of the granule's own changes that granule alone
  pub contents_of-set : IsRising l → IsEntryAt l x.granule index → contents_of (set l index x)
      ≡ finite.insert (contents_of l) x.granule (entry_of x)
  contents_of-set rising at = contents_of-put l (set l index x) x (found-set l x index at (none_before_at l rising x.granule index at))

  -- so does a new entry in its gap
  pub contents_of-insert : IsGapFor l x.granule index → contents_of (insert l index x) ≡ finite.insert (contents_of l) x.granule (entry_of x)
  contents_of-insert gap =
      contents_of-put l (insert l index x) x (found-insert l x index (λ j lt same. omega (arith, gap.lower_before j lt)))

  -- the first keeps each granule
  pub IsRising-set : IsRising l → IsEntryAt l x.granule index → IsRising (set l index x)
  IsRising-set rising at =
      rw (map-set_same (λ listed. listed.granule) l index x nothing (grind (arith, at.has_granule, granule_at-get_or l index nothing))) rising

  granules_of-insert : granules_of (insert l index x) ≡ insert (granules_of l) index x.granule
  granules_of-insert = simp (map-append, take-map, drop-map)

  -- the second keeps the granules rising
  pub IsRising-insert : IsRising l → IsGapFor l x.granule index → IsRising (insert l index x)
  IsRising-insert rising gap =
      let long = length-map l (λ listed. listed.granule) in
      rw granules_of-insert (rising_insert (granules_of l) x.granule index rising (omega (arith, gap.in_range, long)) gap.lower_before
      (λ i le lt. gap.higher_after i le (omega (arith, long))))

-- what holds of a list that grew, and of one that didn't, holds of the list after a try to grow
pub tried : (P : List Listed → Type 0) (grew : Bool) (after grown before : List Listed) → after ≡ cond grew grown before
    → P grown → P before → P after
tried P grew after grown before is p q = grind arith

-- and one for an `Err`
pub OnErr-from : {A B : Type 0} (r : Result A B) (P : Type 0) → P → OnErr r P
OnErr-from r P p = grind arith

-- a granule that has an entry is the next that was put
pub next_put_at : (l : List Listed) → IsRising l → (k index : ℕ) → IsEntryAt l k index → IsNextPut (contents_of l) k (Some k)
next_put_at l rising k index at =
    (omega arith, λ is. none-some _ (sym is ∙ get_at l rising k index at nothing), λ q le lt. absurd (omega arith))

module _ (l : List Listed) (k index : ℕ) (gap : IsGapFor l k index) where
  -- numbers from it on, below the entries that follow, were not put either
  none_above : (q : ℕ) → k ≤ q → ((i : ℕ) → index ≤ i → i < length l → q < granule_at l i) → finite.get (contents_of l) q ≡ None
  none_above q le higher = get_in_gap l q index (record {
    in_range = gap.in_range;
    lower_before = λ i lt. omega (arith, gap.lower_before i lt);
    higher_after = higher;
  })

  -- the entry after the gap has the next
  pub next_put_gap : IsRising l → (x : Listed) → index < length l → x ≡ get_or l index x → IsNextPut (contents_of l) k (Some x.granule)
  next_put_gap rising x lt read =
      let granule_is : granule_at l index ≡ x.granule = grind (arith, granule_at-get_or l index x) in (
        omega (arith, gap.higher_after index (omega arith) lt, granule_is),
        λ is. none-some _ (sym is ∙ get_at l rising x.granule index (record { in_range = lt; has_granule = granule_is }) nothing),
        λ q le below. none_above q le (λ i after in_range. grind (arith, rises_far l rising index i, granule_is)),
      )

  -- and after the last entry none was put
  pub next_put_end : length l ≤ index → IsNextPut (contents_of l) k None
  next_put_end last q le = none_above q le (λ i after in_range. absurd (omega arith))
