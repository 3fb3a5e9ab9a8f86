-- What an edit of a list of entries does to the map that it is.
use Rattle.std.specs.{Cmp.nat_cmp_total, FinMap.{nat_cmp-IsAntisymmetric, same_map}}
use Rattle.std.specs.FinMap as map
use Rattle.std.proofs.Common.{◌≡◌, ℕ, zero, suc, cond, eqb, List, [], ◌∷◌, get_or, set, Some, refl, arith}
use Rattle.std.proofs.{Common.insert, lemmas.Bool.Decides.nat_tests}
use Rattle.tagmem.specs.{declared.list_store.Listed.Listed, Listed.{entry_of, contents_of, IsEntryAt}}
use Rattle.tagmem.proofs.{Granules.get-put, ListLaws.{found, get-contents_of, NoneBefore, none_before_tail}}

-- lists that differ at one granule are maps that differ there
pub contents_of-put : (old new : List Listed) (x : Listed) → ((q : ℕ) → found new q
    ≡ cond (eqb q x.granule) (Some (entry_of x)) (found old q)) → contents_of new ≡ map.insert (contents_of old) x.granule (entry_of x)
contents_of-put old new x h = same_map nat_cmp_total nat_cmp-IsAntisymmetric _ _ (λ q. grind (arith, get-contents_of, h q, get-put (contents_of old)))

at_tail : (x : Listed) (l : List Listed) (k i : ℕ) → IsEntryAt (x ∷ l) k (suc i) → IsEntryAt l k i
at_tail x l k i at = record { in_range = omega (arith, at.in_range); has_granule = at.has_granule }

pub found_present : (l : List Listed) (k i : ℕ) (d : Listed) → IsEntryAt l k i → NoneBefore l k i
    → found l k ≡ Some (entry_of (get_or l i d))
found_present [] k i d at none = absurd (omega (arith, at.in_range))
found_present (x ∷ l) k zero d at none = grind (arith, nat_tests, at.has_granule)
found_present (x ∷ l) k (suc i) d at none =
    grind (arith, nat_tests, none 0 (omega arith), found_present l k i d (at_tail x l k i at) (none_before_tail x l k i none))

pub found-set : (l : List Listed) (x : Listed) (i : ℕ) → IsEntryAt l x.granule i → NoneBefore l x.granule i → (q : ℕ)
    → found (set l i x) q ≡ cond (eqb q x.granule) (Some (entry_of x)) (found l q)
found-set [] x i at none q = absurd (omega (arith, at.in_range))
found-set (y ∷ l) x zero at none q = grind (arith, nat_tests, at.has_granule)
found-set (y ∷ l) x (suc i) at none q =
    grind (arith, nat_tests, none 0 (omega arith), found-set l x i (at_tail y l x.granule i at) (none_before_tail y l x.granule i none) q)

pub found-insert : (l : List Listed) (x : Listed) (i : ℕ) → NoneBefore l x.granule i → (q : ℕ)
    → found (insert l i x) q ≡ cond (eqb q x.granule) (Some (entry_of x)) (found l q)
found-insert l x zero none q = refl
found-insert [] x (suc i) none q = refl
found-insert (y ∷ l) x (suc i) none q =
    grind (arith, nat_tests, none 0 (omega arith), found-insert l x i (none_before_tail y l x.granule i none) q)
