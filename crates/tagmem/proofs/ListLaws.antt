-- Why the map that a list of entries is keeps the laws of a store.
use Rattle.std.specs.Prelude.{◌≡◌, ℕ, suc, ◌<◌, ◌≢◌, cond, eqb, List, [], ◌∷◌, map, length}
use Rattle.std.specs.{Prelude.{get_or, Option, Some, None, refl}, Cmp.{nat_cmp_total, unsigned_tied}}
use Rattle.std.specs.{FinMap.{find, get-from_entries}, Ordering.nat_cmp}
use Rattle.std.specs.FinMap as map
use Rattle.std.proofs.{Common.{sym, ◌∙◌, arith}, lemmas.Bool.{Decides.nat_tests}}
use Rattle.std.proofs.lemmas.{List.{length-map, Elements.{All-head, All-tail}}, Map.Keys.below_from_sorted}
use Rattle.std.proofs.lemmas.{Map.Keys.sorted_from_strictly_increasing, Option.{none-some}}
use Rattle.tagmem.specs.{declared.list_store.Listed.Listed, Granules.{Entry, IsStored, AreStored}}
use Rattle.tagmem.specs.Listed.{entry_of, keyed, contents_of, granules_of, AreApart, IsRising, AllStored}

-- the granule of the entry at an index
abbrev pub granule_at : List Listed → ℕ → ℕ
granule_at l i = get_or (granules_of l) i 0

-- what the first entry of a granule says stands there
abbrev pub found : List Listed → ℕ → Option Entry
found [] q = None
found (x ∷ l) q = cond (eqb q x.granule) (Some (entry_of x)) (found l q)

find-keyed : (l : List Listed) (q : ℕ) → find nat_cmp q (map keyed l) ≡ found l q
find-keyed [] q = refl
find-keyed (x ∷ l) q = grind (arith, unsigned_tied q x.granule, find-keyed l q)

-- the map has it
pub get-contents_of : (l : List Listed) (q : ℕ) → map.get (contents_of l) q ≡ found l q
get-contents_of l q = get-from_entries nat_cmp_total (map keyed l) q ∙ find-keyed l q

-- no entry before index i is the granule's
abbrev pub NoneBefore : List Listed → ℕ → ℕ → Type 0
NoneBefore l k i = (j : ℕ) → j < i → granule_at l j ≢ k

pub none_before_tail : (x : Listed) (l : List Listed) (k i : ℕ) → NoneBefore (x ∷ l) k (suc i) → NoneBefore l k i
none_before_tail x l k i none j lt = none (suc j) (omega arith)

-- a granule that no entry is of is not found
pub found_absent : (l : List Listed) (k : ℕ) → NoneBefore l k (length l) → found l k ≡ None
found_absent [] k none = refl
found_absent (x ∷ l) k none = grind (arith, nat_tests, none 0 (omega arith), found_absent l k (none_before_tail x l k _ none))

-- what is found is what some entry says
pub found_stored : (l : List Listed) → AllStored l → (q : ℕ) (entry : Entry) → found l q ≡ Some entry → IsStored q entry
found_stored [] all q entry is = absurd (none-some entry is)
found_stored (x ∷ l) all q entry is =
    let here = All-head (λ listed. IsStored listed.granule (entry_of listed)) x l all in
    let later = found_stored l (All-tail (λ listed. IsStored listed.granule (entry_of listed)) x l all) q entry in
    grind (arith, nat_tests, here, later)

-- so the map's entries are granules'
pub AreStored-contents_of : (l : List Listed) → AllStored l → AreStored (contents_of l)
AreStored-contents_of l all q entry is = found_stored l all q entry (sym (get-contents_of l q) ∙ is)

-- the granules rise over any distance
abbrev pub RisesFar : List Listed → Type 0
RisesFar l = (i j : ℕ) → i < j → j < length l → granule_at l i < granule_at l j

pub rises_far : (l : List Listed) → IsRising l → RisesFar l
rises_far l rising i j lt in_range =
    below_from_sorted (granules_of l) i j 0 (sorted_from_strictly_increasing (granules_of l) rising) lt (rw length-map in_range)

-- no granule stands twice
pub apart_far : (l : List Listed) → RisesFar l → AreApart l
apart_far l far i j lt in_range same = omega (arith, far i j lt in_range)

-- a list in which no granule stands twice has as many entries as its map
pub len-apart : (l : List Listed) → AreApart l → map.len (contents_of l) ≡ length l
len-apart [] apart = map.len-empty nat_cmp Entry
len-apart (x ∷ l) apart =
    let absent : found l x.granule ≡ None =
    found_absent l x.granule (λ j lt same. apart 0 (suc j) (omega arith) (omega arith) (sym same)) in
    let tail = len-apart l (λ i j lt in_range. apart (suc i) (suc j) (omega arith) (omega arith)) in
    grind (arith, tail, map.len-insert nat_cmp_total (contents_of l) x.granule (entry_of x), get-contents_of l x.granule)

-- and so does one whose granules rise
pub len-contents_of : (l : List Listed) → IsRising l → map.len (contents_of l) ≡ length l
len-contents_of l rising = len-apart l (apart_far l (rises_far l rising))
