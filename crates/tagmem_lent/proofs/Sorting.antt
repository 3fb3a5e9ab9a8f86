-- What one slot more, and the sort of the run that ends behind it, do to slots in runs.
use Rattle.std.specs.List.Sorted.{IsNonDecreasingBy, IsStrictlyIncreasing}
use Rattle.std.specs.FinMap as finite
use Rattle.std.proofs.Common.{◌≡◌, ℕ, suc, ◌+◌, ◌-◌, ◌<◌, ◌≤◌, ◌⊎◌, ⊎_elim, List, [], ◌∷◌, ◌++◌, length, get_or, set}
use Rattle.std.proofs.Common.{take, drop, sym, ap, subst, ◌∙◌, arith, insert, IsPermutation, take-add, take-suc}
use Rattle.std.proofs.Common.{get_or-drop, get_or-set_same, get_or-take, length-append, length-drop, length-set}
use Rattle.std.proofs.{Common.{length-take, length-take-le}, Math.Seq.{get_or-append_seam, take-length, drop-length}}
use Rattle.std.proofs.{Math.Seq.take-set-le, lemmas.List.{get_or-append_right, get_or_append_left, map-append}}
use Rattle.std.proofs.lemmas.List.{take-set, Elements.All-push, Sorted.{All-permutation, IsPermutation-append_right}}
use Rattle.std.proofs.lemmas.List.Sorted.{IsPermutation-map, length_permutation}
use Rattle.tagmem.{specs.{declared.list_store.Listed.Listed, Granules.IsStored}, proofs.ListLaws.granule_at}
use Rattle.tagmem.specs.Listed.{AreApart, contents_of, entry_of, granules_of}
use Rattle.tagmem.proofs.{Indexes.{granule_at-get_or, nothing}, Listed.{contents_of-put, found-insert}}
use Rattle.tagmem_lent.specs.declared.lent_store.Slot.{Slot}
use Rattle.tagmem_lent.specs.Lent.{AreRuns, IsUnused, entries_of, listed_of, part, run_end}
use Rattle.tagmem_lent.proofs.Lent.{granule_in, length-entries_of, run_rises}
use Rattle.tagmem_lent.proofs.Permuted.{AreApart-permuted, contents_of-permuted}
use Rattle.tagmem_lent.proofs.Runs.{run_end-far, run_end-last, run_end-le, run_end-stays}

-- an entry more, of a granule that has none
module _ (entries : List Listed) (x : Listed) (unused : IsUnused entries x.granule) where
  contents_of-pushed : contents_of (entries ++ x ∷ []) ≡ finite.insert (contents_of entries) x.granule (entry_of x)
  contents_of-pushed =
      let at_end : insert entries (length entries) x ≡ entries ++ x ∷ [] =
      ap (λ (l : List Listed). l ++ x ∷ drop (length entries) entries) (take-length entries)
      ∙ ap (λ (l : List Listed). entries ++ x ∷ l) (drop-length entries) in
      subst (λ (l : List Listed). contents_of l ≡ finite.insert (contents_of entries) x.granule (entry_of x)) at_end
      (contents_of-put entries (insert entries (length entries) x) x (found-insert entries x (length entries) unused))

  AreApart-pushed : AreApart entries → AreApart (entries ++ x ∷ [])
  AreApart-pushed apart i j lt in_range =
      let long = length-append entries (x ∷ []) in
      let old : (q : ℕ) → q < length entries → granule_at (entries ++ x ∷ []) q ≡ granule_at entries q = λ q less.
      granule_at-get_or (entries ++ x ∷ []) q nothing (omega (arith, long)) ∙ ap (λ (y : Listed). y.granule) (get_or_append_left entries (x ∷ []) nothing q less)
      ∙ sym (granule_at-get_or entries q nothing less) in
      let new : granule_at (entries ++ x ∷ []) (length entries) ≡ x.granule =
      granule_at-get_or (entries ++ x ∷ []) (length entries) nothing (omega (arith, long))
      ∙ ap (λ (y : Listed). y.granule) (get_or-append_seam entries x [] nothing) in
      let last : j ≡ length entries → granule_at (entries ++ x ∷ []) j ≡ x.granule = λ is.
      ap (granule_at (entries ++ x ∷ [])) is ∙ new in
      grind (arith, long, old i, old j, last, apart i j lt, unused i)

-- granules that rise from each index of a part to the next
rising_from : (entries : List Listed) (from to : ℕ) → to ≤ length entries
    → ((i : ℕ) → from ≤ i → i + 1 < to → granule_at entries i < granule_at entries (i + 1))
    → IsStrictlyIncreasing (part from to (granules_of entries))
rising_from entries from to inside rises i lt =
    let gs = granules_of entries in
    let long : length (part from to gs) ≤ to - from = omega (arith, length-take (to - from) (drop from gs)) in
    let at : (q : ℕ) → q < to - from → get_or (part from to gs) q 0 ≡ granule_at entries (from + q) = λ q less.
    get_or-take (to - from) (drop from gs) q 0 less ∙ get_or-drop from gs q 0 in
    let next : granule_at entries (from + i + 1) ≡ granule_at entries (from + (i + 1)) = ap (granule_at entries) (omega arith) in
    omega (arith, at i (omega arith), at (i + 1) (omega arith), next, rises (from + i) (omega arith) (omega arith))

-- of two numbers one is less, or they are the same
pub order : (a b : ℕ) → (a < b) ⊎ ((a ≡ b) ⊎ (b < a))
order a b = grind arith

module _ (n : ℕ) (slots after : List Slot) (slot : Slot) (start count lowest : ℕ) (sorted : List Slot) (free : n < length slots)
    (as_many : length after ≡ length slots)
    (ends : run_end (n + 1) lowest ≡ n + 1) (before_end : run_end (n + 1) (lowest + 1) < n + 1)
    (begins : start ≡ run_end (n + 1) (lowest + 1)) (inside : start ≤ n) (counted : start + count ≡ n + 1)
    (permuted : IsPermutation (take count (drop start (set slots n slot))) sorted)
    (rises : IsNonDecreasingBy (λ slot. slot.granule) sorted)
    (is : take (n + 1) after ≡ take start (set slots n slot) ++ sorted)
    (runs : AreRuns (entries_of n slots)) (unused : IsUnused (entries_of n slots) slot.granule)
    (stored : IsStored slot.granule (entry_of (listed_of slot))) where
  abbrev old : List Listed
  old = entries_of n slots

  abbrev pushed : List Listed
  pushed = old ++ listed_of slot ∷ []

  abbrev new : List Listed
  new = entries_of (n + 1) after

  abbrev with_slot : List Slot
  with_slot = set slots n slot

  -- the slots in use before the sort are those before and the new one
  before : take (n + 1) with_slot ≡ take n slots ++ slot ∷ []
  before =
      ap (λ (i : ℕ). take i with_slot) {y = suc n} (omega arith) ∙ take-suc with_slot n slot (omega (arith, free, length-set slots n slot))
      ∙ ap (λ (l : List Slot). l ++ get_or with_slot n slot ∷ []) (take-set slots n slot)
      ∙ ap (λ (s : Slot). take n slots ++ s ∷ []) (get_or-set_same slots n slot slot free)

  -- in another order these are the slots in use
  moved : IsPermutation pushed new
  moved =
      let parted : take start with_slot ++ take count (drop start with_slot) ≡ take (n + 1) with_slot =
      sym (take-add start count with_slot) ∙ ap (λ (i : ℕ). take i with_slot) counted in
      let slots_moved : IsPermutation (take n slots ++ slot ∷ []) (take (n + 1) after) =
      subst (λ (l : List Slot). IsPermutation l (take (n + 1) after)) (parted ∙ before)
      (subst (IsPermutation (take start with_slot ++ take count (drop start with_slot))) (sym is)
      (IsPermutation-append_right (take start with_slot) (take count (drop start with_slot)) sorted permuted)) in
      subst (λ (l : List Listed). IsPermutation l new) (map-append listed_of (take n slots) (slot ∷ []))
      (IsPermutation-map listed_of (take n slots ++ slot ∷ []) (take (n + 1) after) slots_moved)

  apart : AreApart new
  apart = AreApart-permuted pushed new moved (AreApart-pushed old (listed_of slot) unused runs.apart)

  -- a slot before the run is as it was, and one of it is one of those that were sorted
  in_new : (q : ℕ) → q < n + 1 → granule_at new q ≡ (get_or (take start with_slot ++ sorted) q slot).granule
  in_new q lt =
      granule_in (n + 1) after (omega (arith, as_many, free)) q slot lt
      ∙ ap (λ (s : Slot). s.granule) (sym (get_or-take (n + 1) after q slot lt) ∙ ap (λ (l : List Slot). get_or l q slot) is)

  begin_long : length (take start with_slot) ≡ start
  begin_long = length-take-le start with_slot (omega (arith, inside, free, length-set slots n slot))

  in_begin : (q : ℕ) → q < start → granule_at new q ≡ granule_at old q
  in_begin q lt =
      in_new q (omega (arith, inside))
      ∙ ap (λ (s : Slot). s.granule) (get_or_append_left (take start with_slot) sorted slot q (omega (arith, begin_long))
      ∙ ap (λ (l : List Slot). get_or l q slot) (take-set-le start slots n slot inside) ∙ get_or-take start slots q slot lt)
      ∙ sym (granule_in n slots (omega (arith, free)) q slot (omega (arith, inside)))

  in_run : (q : ℕ) → start ≤ q → q < n + 1 → granule_at new q ≡ (get_or sorted (q - start) slot).granule
  in_run q above lt =
      in_new q lt ∙ ap (λ (s : Slot). s.granule) (get_or-append_right (take start with_slot) sorted start q slot begin_long above)

  -- the granules of each run rise from each to the next
  rises_at : (level i : ℕ) → run_end (n + 1) (level + 1) ≤ i → i + 1 < run_end (n + 1) level → granule_at new i < granule_at new (i + 1)
  rises_at level i above below = ⊎_elim
      (λ (lower : level < lowest). absurd (omega (
        arith,
        above,
        below,
        run_end-le (n + 1) level,
        run_end-last (n + 1) lowest (level + 1) (omega arith) ends,
      )))
      (⊎_elim
      (λ (same : level ≡ lowest).
      let from : start ≤ i = omega (arith, begins, above, ap (λ (b : ℕ). run_end (n + 1) (b + 1)) same) in
      let last : i + 1 < n + 1 = omega (arith, below, run_end-le (n + 1) level) in
      let long = length_permutation _ _ permuted in
      let many : length (take count (drop start with_slot)) ≡ count = length-take-le count (drop start with_slot)
      (omega (arith, free, counted, length-drop {A = Slot} start with_slot, length-set slots n slot)) in
      let up = rises (i - start) (i + 1 - start) slot (omega arith) (omega (arith, long, many, last, inside, counted)) in
      let differ = apart i (i + 1) (omega arith) (omega (arith, last, length-entries_of (n + 1) after (omega (arith, as_many, free)))) in
      grind (arith, up, differ, in_run i from (omega arith), in_run (i + 1) (omega arith) last))
      (λ (higher : lowest < level).
      let short : (more : ℕ) → run_end (n + 1) (lowest + 1 + more) < n + 1 = λ more. omega (arith, before_end, run_end-far (n + 1) (lowest + 1) more) in
      let to = run_end-stays n level (subst (λ (l : ℕ). run_end (n + 1) l < n + 1) {x = lowest + 1 + (level - (lowest + 1))} (omega arith) (short (level - (lowest + 1)))) in
      let from = run_end-stays n (level + 1) (subst (λ (l : ℕ). run_end (n + 1) l < n + 1) {x = lowest + 1 + (level - lowest)} (omega arith) (short (level - lowest))) in
      let past : run_end (n + 1) level ≤ start = omega (
        arith,
        begins,
        run_end-far (n + 1) (lowest + 1) (level - (lowest + 1)),
        ap (run_end (n + 1)) {x = lowest + 1 + (level - (lowest + 1))} {y = level} (omega arith),
      ) in
      let long = length-entries_of n slots (omega (arith, free)) in
      let up = run_rises old runs level i (i + 1) (omega (arith, above, from, ap (λ (m : ℕ). run_end m (level + 1)) long)) (omega arith)
      (omega (arith, below, to, ap (λ (m : ℕ). run_end m level) long)) in
      omega (arith, up, in_begin i (omega arith), in_begin (i + 1) (omega arith))))
      (order level lowest)

  pub sorted_so : record {
    runs : AreRuns (entries_of (n + 1) after);
    contents : contents_of (entries_of (n + 1) after) ≡ finite.insert (contents_of (entries_of n slots)) slot.granule (entry_of (listed_of slot));
  }
  sorted_so =
      let long = length-entries_of (n + 1) after (omega (arith, as_many, free)) in record {
        runs = record {
          apart = apart;
          rising = λ level. rising_from new (run_end (length new) (level + 1)) (run_end (length new) level) (run_end-le (length new) level)
              (λ i from to. rises_at level i (omega (arith, from, ap (λ (m : ℕ). run_end m (level + 1)) long))
              (omega (arith, to, ap (λ (m : ℕ). run_end m level) long)));
          stored = All-permutation (λ (x : Listed). IsStored x.granule (entry_of x)) pushed new moved
              (All-push (λ (x : Listed). IsStored x.granule (entry_of x)) old (listed_of slot) runs.stored stored);
        };
        contents = sym (contents_of-permuted pushed new moved (AreApart-pushed old (listed_of slot) unused runs.apart))
            ∙ contents_of-pushed old (listed_of slot) unused;
      }
