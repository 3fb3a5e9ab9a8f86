-- Entries in another order: where no granule stands twice, they are the same map.
use Rattle.std.specs.{Cmp.nat_cmp_total, FinMap.{nat_cmp-IsAntisymmetric, same_map}, List.IsDistinct}
use Rattle.std.proofs.Common.{◌≡◌, ℕ, ◌<◌, true, false, cond, eqb, List, [], ◌∷◌, length, get_or, All, Some, None, sym}
use Rattle.std.proofs.{Common.{refl, subst, ◌∙◌, arith, IsPermutation, eqb-true, ne_eqb}, lemmas.Bool.eqb-false}
use Rattle.std.proofs.lemmas.{Bool.Decides.nat_tests, Grind.get_or_default_zero, List.{length-map, Elements.All-head}}
use Rattle.std.proofs.lemmas.List.{Elements.All-tail, Sorted.{All-permutation, IsPermutation-map, IsPermutation-sym}}
use Rattle.std.proofs.lemmas.Map.Keys.{IsDistinct-IsPermutation, IsDistinct-from_apart, apart_from_distinct}
use Rattle.std.proofs.lemmas.Option.{none-some}
use Rattle.tagmem.{specs.{declared.list_store.Listed.Listed, Granules.Entry}, proofs.ListLaws.{found, get-contents_of}}
use Rattle.tagmem.specs.Listed.{AreApart, IsEntryAt, contents_of, entry_of, granules_of}
use Rattle.tagmem.proofs.{Indexes.granule_at-get_or, Listed.found_present}
use Rattle.tagmem_lent.proofs.Lent.{none_before}

abbrev granule_of : Listed → ℕ
granule_of listed = listed.granule

-- granules that differ, as lists of the library have it, and back
distinct_from : (l : List Listed) → AreApart l → IsDistinct eqb (granules_of l)
distinct_from l apart = IsDistinct-from_apart eqb (granules_of l) (λ i j d lt in_range.
    let at_zero : (k : ℕ) → k < length (granules_of l) → get_or (granules_of l) k d ≡ get_or (granules_of l) k 0 =
    λ k. get_or_default_zero (granules_of l) k d in
    ne_eqb _ _ (λ same. apart i j lt (omega (arith, in_range, length-map l granule_of))
    (sym (at_zero i (omega arith)) ∙ same ∙ at_zero j in_range)))

apart_from : (l : List Listed) → IsDistinct eqb (granules_of l) → AreApart l
apart_from l distinct i j lt in_range =
    eqb-false _ _ (apart_from_distinct eqb (granules_of l) i j 0 distinct lt (omega (arith, in_range, length-map l granule_of)))

-- each entry is found by its granule
all_found : (l : List Listed) → AreApart l → All (λ x. found l x.granule ≡ Some (entry_of x)) l
all_found l apart i d lt =
    let at : IsEntryAt l (get_or l i d).granule i = record { in_range = lt; has_granule = granule_at-get_or l i d lt } in
    found_present l (get_or l i d).granule i d at (none_before l apart (get_or l i d).granule i at)

-- what is found among some entries is found among those that have them all
found_in_other : (m l : List Listed) → All (λ x. found m x.granule ≡ Some (entry_of x)) l → (q : ℕ) (e : Entry) → found l q ≡ Some e
    → found m q ≡ Some e
found_in_other m [] all q e is = absurd (none-some e is)
found_in_other m (x ∷ l) all q e is =
    elim (eqb q x.granule) as (λ b. eqb q x.granule ≡ b → cond b (Some (entry_of x)) (found l q) ≡ Some e → found m q ≡ Some e) [
      | true ↦ λ same here.
          subst (λ granule. found m granule ≡ Some e) (sym (eqb-true q x.granule same))
          (All-head (λ (y : Listed). found m y.granule ≡ Some (entry_of y)) x l all ∙ here)
      | false ↦ λ differs later. found_in_other m l (All-tail (λ (y : Listed). found m y.granule ≡ Some (entry_of y)) x l all) q e later
    ] refl is

module _ (old new : List Listed) (permuted : IsPermutation old new) (apart : AreApart old) where
  pub AreApart-permuted : AreApart new
  AreApart-permuted = apart_from new (IsDistinct-IsPermutation eqb (λ x y. grind (arith, nat_tests)) (granules_of old) (granules_of new)
      (IsPermutation-map granule_of old new permuted) (distinct_from old apart))

  same_found : (q : ℕ) → found old q ≡ found new q
  same_found q =
      let in_new = found_in_other new old
      (All-permutation (λ (x : Listed). found new x.granule ≡ Some (entry_of x)) new old (IsPermutation-sym old new permuted)
      (all_found new AreApart-permuted)) q in
      let in_old = found_in_other old new
      (All-permutation (λ (x : Listed). found old x.granule ≡ Some (entry_of x)) old new permuted (all_found old apart)) q in
      elim (found old q) as (λ o. found old q ≡ o → o ≡ found new q) [
        | Some e ↦ λ is. sym (in_new e is)
        | None ↦ λ is. elim (found new q) as (λ o. found new q ≡ o → None ≡ o) [
          | Some e ↦ λ there. sym is ∙ in_old e there
          | None ↦ λ there. refl
        ] refl
      ] refl

  pub contents_of-permuted : contents_of old ≡ contents_of new
  contents_of-permuted = same_map nat_cmp_total nat_cmp-IsAntisymmetric _ _ (λ q.
      get-contents_of old q ∙ same_found q ∙ sym (get-contents_of new q))
