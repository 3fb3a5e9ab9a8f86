-- The runs that end behind a new slot, as they are merged.
use Rattle.std.specs.List.Sorted.{IsNonDecreasingBy}
use Rattle.std.specs.FinMap as finite
use Rattle.std.proofs.Common.{◌≡◌, ℕ, ◌+◌, ◌-◌, ◌<◌, ◌≤◌, List, ◌++◌, length, get_or, set, take, drop, sym, refl, ap}
use Rattle.std.proofs.Common.{subst, ◌∙◌, arith, IsPermutation, take-add, drop-drop, get_or-drop, get_or-take}
use Rattle.std.proofs.Common.{length-append, length-drop, length-set, length-take-le}
use Rattle.std.proofs.{Math.Seq.{drop-append_seam, take-append_seam}, lemmas.List.{drop-take, take-set-le}}
use Rattle.std.proofs.lemmas.List.Sorted.{IsPermutation-append_right, IsPermutation-refl, IsPermutation-trans}
use Rattle.tagmem.{specs.{Granules.IsStored, Listed.{contents_of, entry_of}}, proofs.ListLaws.granule_at}
use Rattle.tagmem_lent.specs.declared.lent_store.Slot.{Slot}
use Rattle.tagmem_lent.specs.Lent.{AreRuns, IsUnused, entries_of, listed_of, part, run_end}
use Rattle.tagmem_lent.proofs.{Lent.{granule_in, granule_of, length-entries_of, run_rises}, Merging.take_of_take}
use Rattle.tagmem_lent.proofs.{Runs.{run_end-le, run_end-rises, run_end-stays, run_end-zero}, Sorting.sorted_so}

-- slots in which the runs of the digits below a level, and a new slot behind them, are one
pub record IsJoining (placed : List Slot) (used : ℕ) (slots : List Slot) (level start : ℕ) : Type 0 where
  pub begins : start ≡ run_end used level
  pub len : length slots ≡ length placed
  pub before : take start slots ≡ take start placed
  pub permuted : IsPermutation (part start (used + 1) placed) (part start (used + 1) slots)
  pub rises : IsNonDecreasingBy granule_of (part start (used + 1) slots)

-- a new slot alone
pub IsJoining-begun : (placed : List Slot) (used : ℕ) → used < length placed → IsJoining placed used placed 0 used
IsJoining-begun placed used free = record {
  begins = sym (run_end-zero used);
  len = refl;
  before = refl;
  permuted = IsPermutation-refl (part used (used + 1) placed);
  rises = λ i j d le lt.
      let short = length-take-le (used + 1 - used) (drop used placed) (omega (arith, length-drop used placed)) in
      let same : i ≡ j = omega arith in
      omega (arith, ap (λ (n : ℕ). (get_or (part used (used + 1) placed) n d).granule) same);
}

-- the slots of a run rise
module _ (used : ℕ) (slots : List Slot) (fits : used ≤ length slots) (runs : AreRuns (entries_of used slots)) (level from to : ℕ)
    (is_from : from ≡ run_end used (level + 1)) (is_to : to ≡ run_end used level) where
  pub run_slots_rise : IsNonDecreasingBy granule_of (part from to slots)
  run_slots_rise i j d le lt =
      let entries = entries_of used slots in
      let inside : to ≤ used = omega (arith, is_to, run_end-le used level) in
      let many : length (part from to slots) ≡ to - from = length-take-le (to - from) (drop from slots) (omega (arith, length-drop from slots)) in
      let at : (q : ℕ) → q < to - from → (get_or (part from to slots) q d).granule ≡ granule_at entries (from + q) = λ q less.
      ap granule_of (get_or-take (to - from) (drop from slots) q d less ∙ get_or-drop from slots q d)
      ∙ sym (granule_in used slots fits (from + q) d (omega arith)) in
      let long = length-entries_of used slots fits in
      let up : i < j → granule_at entries (from + i) < granule_at entries (from + j) = λ less.
      run_rises entries runs level (from + i) (from + j) (omega (arith, is_from, ap (λ (n : ℕ). run_end n (level + 1)) long)) (omega arith)
      (omega (arith, is_to, ap (λ (n : ℕ). run_end n level) long)) in
      let same : i ≡ j → granule_at entries (from + i) ≡ granule_at entries (from + j) = λ is. ap (λ (n : ℕ). granule_at entries (from + n)) is in
      grind (arith, at i, at j, up, same)

module _ (placed slots : List Slot) (used level start from : ℕ) (is : IsJoining placed used slots level start) (free : used < length placed)
    (is_from : from ≡ run_end used (level + 1)) where
  pub from_le : from ≤ start
  from_le = omega (arith, is_from, is.begins, run_end-rises used level)

  pub start_le : start ≤ used
  start_le = omega (arith, is.begins, run_end-le used level)

  part_of_front : (l : List Slot) → take (start - from) (drop from l) ≡ drop from (take start l)
  part_of_front l = sym (drop-take from (start - from) l) ∙ ap (λ (n : ℕ). drop from (take n l)) {x = from + (start - from)} (omega (arith, from_le))

  pub first_is : take (start - from) (drop from slots) ≡ part from start placed
  first_is = part_of_front slots ∙ ap (drop from) is.before ∙ sym (part_of_front placed)

  -- the run of the level rises
  pub first_rises : (old : List Slot) (slot : Slot) → placed ≡ set old used slot → used ≤ length old → AreRuns (entries_of used old)
      → IsNonDecreasingBy granule_of (take (start - from) (drop from slots))
  first_rises old slot is_placed fits runs =
      let same : part from start old ≡ take (start - from) (drop from slots) =
      part_of_front old ∙ ap (drop from) (sym (take-set-le start old used slot start_le)) ∙ ap (λ (l : List Slot). drop from (take start l)) (sym is_placed)
      ∙ sym (part_of_front placed) ∙ sym first_is in
      subst (IsNonDecreasingBy granule_of) same (run_slots_rise used old fits runs level from start is_from is.begins)

  rest_of : (l : List Slot) → drop (start - from) (drop from l) ≡ drop start l
  rest_of l = drop-drop (start - from) from l ∙ ap (λ (n : ℕ). drop n l) (omega (arith, from_le))

  pub second_is : part (start - from) (used + 1 - from) (drop from slots) ≡ part start (used + 1) slots
  second_is =
      ap (λ (n : ℕ). take n (drop (start - from) (drop from slots))) {x = used + 1 - from - (start - from)} (omega (arith, from_le, start_le))
      ∙ ap (take (used + 1 - start)) (rest_of slots)

  both_of : (l : List Slot) → take (used + 1 - from) (drop from l) ≡ take (start - from) (drop from l) ++ part start (used + 1) l
  both_of l =
      ap (λ (n : ℕ). take n (drop from l)) {y = start - from + (used + 1 - start)} (omega (arith, from_le, start_le))
      ∙ take-add (start - from) (used + 1 - start) (drop from l)
      ∙ ap (λ (r : List Slot). take (start - from) (drop from l) ++ take (used + 1 - start) r) (rest_of l)

  -- a merge with the run of the level
  module _ (area : List Slot) (long : length area ≡ length (drop from slots))
      (permuted : IsPermutation (take (used + 1 - from) (drop from slots)) (take (used + 1 - from) area))
      (rises : IsNonDecreasingBy granule_of (take (used + 1 - from) area)) where
    abbrev new : List Slot
    new = take from slots ++ area

    front_long : length (take from slots) ≡ from
    front_long = length-take-le from slots (omega (arith, from_le, start_le, is.len, free))

    behind_front : drop from new ≡ area
    behind_front = ap (λ (n : ℕ). drop n new) (sym front_long) ∙ drop-append_seam (take from slots) area

    pub IsJoining-more : IsJoining placed used new (level + 1) from
    IsJoining-more = record {
      begins = is_from;
      len = length-append (take from slots) area ∙ omega (arith, front_long, long, length-drop from slots, from_le, start_le, is.len, free);
      before = ap (λ (n : ℕ). take n new) (sym front_long) ∙ take-append_seam (take from slots) area
          ∙ sym (take_of_take from start slots from_le (omega (arith, start_le, is.len, free)))
          ∙ ap (take from) is.before ∙ take_of_take from start placed from_le (omega (arith, start_le, free));
      permuted = subst (λ (l : List Slot). IsPermutation (part from (used + 1) placed) (take (used + 1 - from) l)) (sym behind_front)
          (IsPermutation-trans _ _ _
          (subst (λ (l : List Slot). IsPermutation l (take (used + 1 - from) (drop from slots))) (sym (both_of placed))
          (subst (IsPermutation (take (start - from) (drop from placed) ++ part start (used + 1) placed)) (sym (both_of slots))
          (subst (λ (l : List Slot). IsPermutation (take (start - from) (drop from placed) ++ part start (used + 1) placed) (l ++ part start (used + 1) slots)) (sym first_is)
          (IsPermutation-append_right (part from start placed) _ _ is.permuted)))) permuted);
      rises = subst (λ (l : List Slot). IsNonDecreasingBy granule_of (take (used + 1 - from) l)) (sym behind_front) rises;
    }

-- behind the level of the lowest digit of one more, they are the slots in use
module _ (used : ℕ) (old after : List Slot) (slot : Slot) (level start lowest : ℕ) (is : IsJoining (set old used slot) used after level start)
    (free : used < length old) (is_level : level ≡ lowest + 1) (ends : run_end (used + 1) lowest ≡ used + 1)
    (before_end : run_end (used + 1) (lowest + 1) < used + 1) (runs : AreRuns (entries_of used old))
    (unused : IsUnused (entries_of used old) slot.granule) (stored : IsStored slot.granule (entry_of (listed_of slot))) where
  pub joined_so : record {
    runs : AreRuns (entries_of (used + 1) after);
    contents : contents_of (entries_of (used + 1) after) ≡ finite.insert (contents_of (entries_of used old)) slot.granule (entry_of (listed_of slot));
  }
  joined_so =
      let count : ℕ = used + 1 - start in
      let inside : start ≤ used = omega (arith, is.begins, run_end-le used level) in
      let counted : start + count ≡ used + 1 = omega arith in
      let begins : start ≡ run_end (used + 1) (lowest + 1) = is.begins ∙ ap (run_end used) is_level ∙ sym (run_end-stays used (lowest + 1) before_end) in
      let whole : take (used + 1) after ≡ take start (set old used slot) ++ part start (used + 1) after =
      ap (λ (n : ℕ). take n after) (sym counted) ∙ take-add start count after
      ∙ ap (λ (l : List Slot). l ++ part start (used + 1) after) is.before in
      sorted_so used old after slot start count lowest (part start (used + 1) after) free (is.len ∙ length-set old used slot) ends before_end
      begins inside counted is.permuted is.rises whole runs unused stored
