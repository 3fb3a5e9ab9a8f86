-- Entries around the number of those with keys at or below a number.
use Rattle.std.proofs.Common.{◌≡◌, ◌≢◌, ◌<◌, ◌≤◌, ◌+◌, ◌-◌, ◌∷◌, ◌++◌, ◌⊎◌, [], ℕ, zero, suc, Some, None, List, Option, inl, inr}
use Rattle.std.proofs.Common.{length, take, drop, get_or, set, refl, sym, ap, subst, ◌∙◌, arith}
use Rattle.std.proofs.lemmas.{Bool.cases_lt, List.{take-append-drop, set_split}}
use Rattle.cap_objects.specs.declared.entries.Entry.{Entry}
use Rattle.cap_objects.specs.Blocks.{AreFrom, AreSorted, AreUnder, Each, Puts, Takes, find, or_second}
use Rattle.cap_objects.specs.Indexes.{IsFirstFrom, IsLastAtOrBelow}
use Rattle.cap_objects.proofs.EntryLemmas.{around, each-join, each-map, each-right, find-append, find-each, find-first, find-over, find-under, puts-again, puts-new, sorted-around, sorted-left, sorted-right, takes-none, takes-one}

-- what is read past the end
abbrev pub blank : Entry
blank = record { key = 0; slot = 0 }

pub take-one : {A : Type 0} (xs : List A) (m : ℕ) (d : A) → m < length xs → take (suc m) xs ≡ take m xs ++ get_or xs m d ∷ []
take-one [] m d low = absurd (omega (arith, low))
take-one (x ∷ xs) zero d low = refl
take-one (x ∷ xs) (suc m) d low = ap (λ l. x ∷ l) (take-one xs m d (omega (arith, low)))

pub drop-one : {A : Type 0} (xs : List A) (m : ℕ) (d : A) → m < length xs → drop m xs ≡ get_or xs m d ∷ drop (suc m) xs
drop-one [] m d low = absurd (omega (arith, low))
drop-one (x ∷ xs) zero d low = refl
drop-one (x ∷ xs) (suc m) d low = drop-one xs m d (omega (arith, low))

pub drop-past : {A : Type 0} (xs : List A) (n : ℕ) → length xs ≤ n → drop n xs ≡ []
drop-past [] zero all = refl
drop-past [] (suc n) all = refl
drop-past (x ∷ xs) zero all = absurd (omega (arith, all))
drop-past (x ∷ xs) (suc n) all = drop-past xs n (omega (arith, all))

pub drop-none : {A : Type 0} (xs : List A) (n : ℕ) → length xs ≤ n → take n xs ≡ xs
drop-none [] zero all = refl
drop-none [] (suc n) all = refl
drop-none (x ∷ xs) zero all = absurd (omega (arith, all))
drop-none (x ∷ xs) (suc n) all = ap (λ l. x ∷ l) (drop-none xs n (omega (arith, all)))

module _ (xs : List Entry) (sorted : AreSorted xs) (m : ℕ) (d : Entry) (low : m < length xs) where
  parts : AreSorted (take m xs) × AreSorted (drop (suc m) xs) × AreUnder (get_or xs m d).key (take m xs)
      × Each (λ y. (get_or xs m d).key < y.key) (drop (suc m) xs)
  parts = sorted-around (take m xs) (get_or xs m d) (drop (suc m) xs) (subst AreSorted (around xs m d low) sorted)

  pub low-more : (key : ℕ) → (get_or xs m d).key ≤ key → Each (λ e. e.key ≤ key) (take (m + 1) xs)
  low-more key is =
      let suc_is : suc m ≡ m + 1 = omega arith in
      subst (λ (n : ℕ). Each (λ e. e.key ≤ key) (take n xs)) suc_is
      (subst (Each (λ e. e.key ≤ key)) (sym (take-one xs m d low))
      (each-join (λ e. e.key ≤ key) (take m xs) (get_or xs m d ∷ [])
      (each-map (λ e. e.key < (get_or xs m d).key) (λ e. e.key ≤ key) (take m xs) (λ e l. omega (arith, l, is)) parts.2) (is, tt)))

  pub high-more : (key : ℕ) → key < (get_or xs m d).key → Each (λ e. key < e.key) (drop m xs)
  high-more key is = subst (Each (λ e. key < e.key)) (sym (drop-one xs m d low))
      (is, each-map (λ e. (get_or xs m d).key < e.key) (λ e. key < e.key) (drop (suc m) xs) (λ e l. omega (arith, l, is)) parts.3)

  pub under-key : AreUnder (get_or xs m d).key (take m xs)
  under-key = parts.2

  pub from-key : AreFrom (get_or xs m d).key (drop m xs)
  from-key = subst (AreFrom (get_or xs m d).key) (sym (drop-one xs m d low))
      (omega arith, each-map (λ e. (get_or xs m d).key < e.key) (λ e. (get_or xs m d).key ≤ e.key) (drop (suc m) xs) (λ e l. omega (arith, l)) parts.3)

  at-place : find (get_or xs m d).key xs ≡ Some (get_or xs m d).slot
  at-place =
      let x = get_or xs m d in
      ap (find x.key) (around xs m d low) ∙ find-append x.key (take m xs) (x ∷ drop (suc m) xs)
      ∙ ap (λ (o : Option ℕ). or_second o (find x.key (x ∷ drop (suc m) xs))) (find-under x.key (take m xs) parts.2)
      ∙ find-first x.key x (drop (suc m) xs) refl

  -- the last entry at or below a number
  pub last-here : (key : ℕ) → (get_or xs m d).key ≤ key → Each (λ e. key < e.key) (drop (suc m) xs)
      → IsLastAtOrBelow (λ k. find k xs) key (Some ((get_or xs m d).key, (get_or xs m d).slot))
  last-here key is high =
      let x = get_or xs m d in
      let all : Each (λ e. (e.key ≤ x.key) ⊎ (key < e.key)) xs = subst (Each (λ e. (e.key ≤ x.key) ⊎ (key < e.key))) (sym (around xs m d low))
      (each-join (λ e. (e.key ≤ x.key) ⊎ (key < e.key)) (take m xs) (x ∷ drop (suc m) xs)
      (each-map (λ e. e.key < x.key) (λ e. (e.key ≤ x.key) ⊎ (key < e.key)) (take m xs) (λ e l. inl (omega (arith, l))) parts.2)
      (inl (omega arith), each-map (λ e. key < e.key) (λ e. (e.key ≤ x.key) ⊎ (key < e.key)) (drop (suc m) xs) (λ e l. inr l) high)) in (
        is,
        at-place,
        λ k value below there.
            let e = find-each (λ e. (e.key ≤ x.key) ⊎ (key < e.key)) k xs value all there in
            elim e.1 [
              | inl under ↦ omega (arith, under, e.2)
              | inr over ↦ absurd (omega (arith, over, e.2, below))
            ],
      )

  -- the first entry from a number on
  pub first-here : (key : ℕ) → key ≤ (get_or xs m d).key → AreUnder key (take m xs)
      → IsFirstFrom (λ k. find k xs) key (Some ((get_or xs m d).key, (get_or xs m d).slot))
  first-here key is under =
      let x = get_or xs m d in
      let all : Each (λ e. (e.key < key) ⊎ (x.key ≤ e.key)) xs = subst (Each (λ e. (e.key < key) ⊎ (x.key ≤ e.key))) (sym (around xs m d low))
      (each-join (λ e. (e.key < key) ⊎ (x.key ≤ e.key)) (take m xs) (x ∷ drop (suc m) xs)
      (each-map (λ e. e.key < key) (λ e. (e.key < key) ⊎ (x.key ≤ e.key)) (take m xs) (λ e l. inl l) under)
      (inr (omega arith), each-map (λ e. x.key < e.key) (λ e. (e.key < key) ⊎ (x.key ≤ e.key)) (drop (suc m) xs) (λ e l. inr (omega (arith, l))) parts.3)) in (
        is,
        at-place,
        λ k value from there.
            let e = find-each (λ e. (e.key < key) ⊎ (x.key ≤ e.key)) k xs value all there in
            elim e.1 [
              | inl low ↦ absurd (omega (arith, low, e.2, from))
              | inr over ↦ omega (arith, over, e.2)
            ],
      )

  -- those below the one at a place, if that isn't above a number
  pub under-here : (key : ℕ) → (get_or xs m d).key ≤ key → AreUnder key (take m xs)
  under-here key is = each-map (λ e. e.key < (get_or xs m d).key) (λ e. e.key < key) (take m xs) (λ e l. omega (arith, l, is)) parts.2

  under-past : (key : ℕ) → (get_or xs m d).key < key → AreUnder key (take (suc m) xs)
  under-past key is = subst (AreUnder key) (sym (take-one xs m d low))
      (each-join (λ e. e.key < key) (take m xs) (get_or xs m d ∷ [])
      (each-map (λ e. e.key < (get_or xs m d).key) (λ e. e.key < key) (take m xs) (λ e l. omega (arith, l, is)) parts.2) (is, tt))

  -- the entry there has the key
  module _ (key : ℕ) (keyed : (get_or xs m d).key ≡ key) where
    over : Each (λ y. key < y.key) (drop (suc m) xs)
    over = subst (λ (n : ℕ). Each (λ y. n < y.key) (drop (suc m) xs)) keyed parts.3

    under : AreUnder key (take m xs)
    under = subst (λ (n : ℕ). AreUnder n (take m xs)) keyed parts.2

    pub puts-here : (e : Entry) → e.key ≡ key → Puts xs key e.slot (set xs m e)
    puts-here e is = subst (λ (l : List Entry). Puts l key e.slot (set xs m e)) (sym (around xs m d low))
        (subst (Puts (take m xs ++ get_or xs m d ∷ drop (suc m) xs) key e.slot) (sym (set_split xs m e low))
        (puts-again (take m xs) (drop (suc m) xs) key parts.0 parts.1 under over (get_or xs m d) keyed e is))

    pub takes-here : Takes xs key (take m xs ++ drop (suc m) xs)
    takes-here = subst (λ (l : List Entry). Takes l key (take m xs ++ drop (suc m) xs)) (sym (around xs m d low))
        (takes-one (take m xs) (drop (suc m) xs) key parts.0 parts.1 under over (get_or xs m d) keyed)

strict : (a b : ℕ) → a ≤ b → a ≢ b → a < b
strict a b low differ = elim (cases_lt a b) [
  | inl less ↦ less
  | inr not_less ↦ absurd (differ (omega (arith, low)))
]

-- the last of those at or below a number
module _ (xs : List Entry) (sorted : AreSorted xs) (n key : ℕ) (d : Entry) (within : n ≤ length xs) (low : Each (λ e. e.key ≤ key) (take n xs))
    (high : Each (λ e. key < e.key) (drop n xs)) where
  pub last-key : 0 < n → (get_or xs (n - 1) d).key ≤ key
  last-key some =
      let one : n ≡ suc (n - 1) = omega (arith, some) in
      let all = subst (Each (λ e. e.key ≤ key)) (ap (λ (m : ℕ). take m xs) one ∙ take-one xs (n - 1) d (omega (arith, some, within))) low in
      (each-right (λ e. e.key ≤ key) (take (n - 1) xs) (get_or xs (n - 1) d ∷ []) all).0

  high-past : 0 < n → Each (λ e. key < e.key) (drop (suc (n - 1)) xs)
  high-past some =
      let one : n ≡ suc (n - 1) = omega (arith, some) in
      subst (λ (m : ℕ). Each (λ e. key < e.key) (drop m xs)) one high

  pub last-one : 0 < n → IsLastAtOrBelow (λ k. find k xs) key (Some ((get_or xs (n - 1) d).key, (get_or xs (n - 1) d).slot))
  last-one some = last-here xs sorted (n - 1) d (omega (arith, some, within)) key (last-key some) (high-past some)

  pub last-none : n ≡ 0 → IsLastAtOrBelow (λ k. find k xs) key None
  last-none none k below = find-over k xs (each-map (λ e. key < e.key) (λ e. k < e.key) xs (λ e l. omega (arith, l, below))
      (subst (λ (m : ℕ). Each (λ e. key < e.key) (drop m xs)) none high))

  pub first-same : 0 < n → (get_or xs (n - 1) d).key ≡ key → IsFirstFrom (λ k. find k xs) key (Some (key, (get_or xs (n - 1) d).slot))
  first-same some is = subst (λ (k : ℕ). IsFirstFrom (λ k. find k xs) key (Some (k, (get_or xs (n - 1) d).slot))) is
      (first-here xs sorted (n - 1) d (omega (arith, some, within)) key (omega (arith, is))
      (under-here xs sorted (n - 1) d (omega (arith, some, within)) key (last-key some)))

  -- no entry has the key
  module _ (other : 0 < n → (get_or xs (n - 1) d).key ≢ key) where
    pub all-under : AreUnder key (take n xs)
    all-under =
        let by : (m : ℕ) → m ≡ n → AreUnder key (take m xs) = λ m. elim m as (λ m. m ≡ n → AreUnder key (take m xs)) [
          | zero ↦ λ is. tt
          | suc m ↦ λ is.
              let some : 0 < n = omega (arith, is) in
              let place : n - 1 ≡ m = omega (arith, is) in
              let l = last-key some in
              let differ = other some in
              subst (λ (k : ℕ). AreUnder key (take (suc k) xs)) place (under-past xs sorted (n - 1) d (omega (arith, some, within)) key
              (strict (get_or xs (n - 1) d).key key l differ))
        ] in
        by n refl

    pub first-next : n < length xs → IsFirstFrom (λ k. find k xs) key (Some ((get_or xs n d).key, (get_or xs n d).slot))
    first-next more = first-here xs sorted n d more key
        (let h = subst (Each (λ e. key < e.key)) (drop-one xs n d more) high in let l = h.0 in omega (arith, l)) all-under

    pub first-none : n ≡ length xs → IsFirstFrom (λ k. find k xs) key None
    first-none whole k value from there =
        let all = subst (AreUnder key) (drop-none xs n (omega (arith, whole))) all-under in
        let e = find-each (λ e. e.key < key) k xs value all there in
        omega (arith, e.1, e.2, from)

    pub puts-there : (e : Entry) → e.key ≡ key → Puts xs key e.slot (take n xs ++ e ∷ drop n xs)
    puts-there e is = subst (λ (l : List Entry). Puts l key e.slot (take n xs ++ e ∷ drop n xs)) (take-append-drop n xs)
        (puts-new (take n xs) (drop n xs) key (sorted-left (take n xs) (drop n xs) (subst AreSorted (sym (take-append-drop n xs)) sorted))
        (sorted-right (take n xs) (drop n xs) (subst AreSorted (sym (take-append-drop n xs)) sorted)) all-under high e is)

    pub takes-not : Takes xs key xs
    takes-not = subst (λ (l : List Entry). Takes l key l) (take-append-drop n xs)
        (takes-none (take n xs) (drop n xs) key (sorted-left (take n xs) (drop n xs) (subst AreSorted (sym (take-append-drop n xs)) sorted))
        (sorted-right (take n xs) (drop n xs) (subst AreSorted (sym (take-append-drop n xs)) sorted)) all-under high)
