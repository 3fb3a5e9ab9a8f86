-- Entries in the order of their keys.
use Rattle.std.proofs.Common.{◌≡◌, ◌≢◌, ◌<◌, ◌≤◌, ◌==◌, ◌∷◌, ◌++◌, ◌+◌, [], ℕ, suc, Some, None, List, Option, inl, inr}
use Rattle.std.proofs.Common.{if◌then◌else◌, length, take, drop, get_or, refl, sym, ap, subst, ◌∙◌, arith}
use Rattle.std.proofs.lemmas.{Bool.{cond-false, cond-true, Decides.eqb_tells}, Option.{none-some, same_Some}}
use Rattle.std.proofs.lemmas.List.{set-get_or, set_split}
use Rattle.cap_objects.specs.declared.entries.Entry.{Entry}
use Rattle.cap_objects.specs.Blocks.{AreFrom, AreSorted, AreUnder, Each, Puts, Takes, find, or_second}

-- a fact of each element
pub each-join : {A : Type 0} (P : A → Type 0) (xs ys : List A) → Each P xs → Each P ys → Each P (xs ++ ys)
each-join P [] ys px py = py
each-join P (x ∷ xs) ys px py = (px.0, each-join P xs ys px.1 py)

pub each-left : {A : Type 0} (P : A → Type 0) (xs ys : List A) → Each P (xs ++ ys) → Each P xs
each-left P [] ys p = tt
each-left P (x ∷ xs) ys p = (p.0, each-left P xs ys p.1)

pub each-right : {A : Type 0} (P : A → Type 0) (xs ys : List A) → Each P (xs ++ ys) → Each P ys
each-right P [] ys p = p
each-right P (x ∷ xs) ys p = each-right P xs ys p.1

pub each-map : {A : Type 0} (P Q : A → Type 0) (xs : List A) → ((x : A) → P x → Q x) → Each P xs → Each Q xs
each-map P Q [] f p = tt
each-map P Q (x ∷ xs) f p = (f x p.0, each-map P Q xs f p.1)

-- a list around the element at a place
pub around : {A : Type 0} (xs : List A) (i : ℕ) (d : A) → i < length xs → xs ≡ take i xs ++ get_or xs i d ∷ drop (suc i) xs
around xs i d low = sym (set-get_or xs i d) ∙ set_split xs i (get_or xs i d) low

-- the slot of a key
pub find-append : (k : ℕ) (xs ys : List Entry) → find k (xs ++ ys) ≡ or_second (find k xs) (find k ys)
find-append k [] ys = refl
find-append k (e ∷ es) ys = elim (eqb_tells k e.key) [
  | inl same ↦ cond-true (k == e.key) (Some e.slot) (find k (es ++ ys)) same.0
      ∙ sym (ap (λ (o : Option ℕ). or_second o (find k ys)) (cond-true (k == e.key) (Some e.slot) (find k es) same.0))
  | inr unlike ↦ cond-false (k == e.key) (Some e.slot) (find k (es ++ ys)) unlike.0 ∙ find-append k es ys
      ∙ sym (ap (λ (o : Option ℕ). or_second o (find k ys)) (cond-false (k == e.key) (Some e.slot) (find k es) unlike.0))
]

pub find-each : (P : Entry → Type 0) (k : ℕ) (es : List Entry) (s : ℕ) → Each P es → find k es ≡ Some s
    → (e : Entry) × P e × (k ≡ e.key) × (e.slot ≡ s)
find-each P k [] s all is = absurd (none-some s is)
find-each P k (e ∷ es) s all is = elim (eqb_tells k e.key) [
  | inl same ↦ (e, all.0, same.1, same_Some e.slot s (sym (cond-true (k == e.key) (Some e.slot) (find k es) same.0) ∙ is))
  | inr unlike ↦ find-each P k es s all.1 (sym (cond-false (k == e.key) (Some e.slot) (find k es) unlike.0) ∙ is)
]

pub find-none : (k : ℕ) (es : List Entry) → Each (λ e. k ≢ e.key) es → find k es ≡ None
find-none k [] all = refl
find-none k (e ∷ es) all = elim (eqb_tells k e.key) [
  | inl same ↦ absurd (all.0 same.1)
  | inr unlike ↦ cond-false (k == e.key) (Some e.slot) (find k es) unlike.0 ∙ find-none k es all.1
]

pub find-under : (k : ℕ) (es : List Entry) → AreUnder k es → find k es ≡ None
find-under k es under = find-none k es (each-map (λ e. e.key < k) (λ e. k ≢ e.key) es (λ e l same. omega (arith, l, same)) under)

pub find-over : (k : ℕ) (es : List Entry) → Each (λ e. k < e.key) es → find k es ≡ None
find-over k es over = find-none k es (each-map (λ e. k < e.key) (λ e. k ≢ e.key) es (λ e l same. omega (arith, l, same)) over)

-- sorted entries around one
pub sorted-around : (xs : List Entry) (e : Entry) (ys : List Entry) → AreSorted (xs ++ e ∷ ys)
    → AreSorted xs × AreSorted ys × AreUnder e.key xs × Each (λ y. e.key < y.key) ys
sorted-around [] e ys sorted = (tt, sorted.1, tt, sorted.0)
sorted-around (x ∷ xs) e ys sorted =
    let rest = sorted-around xs e ys sorted.1 in
    let head = (each-right (λ y. x.key < y.key) xs (e ∷ ys) sorted.0).0 in
    ((each-left (λ y. x.key < y.key) xs (e ∷ ys) sorted.0, rest.0), rest.1, (head, rest.2), rest.3)

pub sorted-join : (xs ys : List Entry) (n : ℕ) → AreSorted xs → AreSorted ys → AreUnder n xs → AreFrom n ys → AreSorted (xs ++ ys)
sorted-join [] ys n sx sy under from = sy
sorted-join (x ∷ xs) ys n sx sy under from = (
  each-join (λ y. x.key < y.key) xs ys sx.0
      (each-map (λ y. n ≤ y.key) (λ y. x.key < y.key) ys (λ y l. let u = under.0 in omega (arith, l, u)) from),
  sorted-join xs ys n sx.1 sy under.1 from,
)

pub sorted-left : (xs ys : List Entry) → AreSorted (xs ++ ys) → AreSorted xs
sorted-left [] ys sorted = tt
sorted-left (x ∷ xs) ys sorted = (each-left (λ y. x.key < y.key) xs ys sorted.0, sorted-left xs ys sorted.1)

pub sorted-right : (xs ys : List Entry) → AreSorted (xs ++ ys) → AreSorted ys
sorted-right [] ys sorted = sorted
sorted-right (x ∷ xs) ys sorted = sorted-right xs ys sorted.1

-- entries after an entry of a key
pub find-first : (k : ℕ) (e : Entry) (es : List Entry) → k ≡ e.key → find k (e ∷ es) ≡ Some e.slot
find-first k e es same = elim (eqb_tells k e.key) [
  | inl is ↦ cond-true (k == e.key) (Some e.slot) (find k es) is.0
  | inr unlike ↦ absurd (unlike.1 same)
]

pub find-rest : (k : ℕ) (e : Entry) (es : List Entry) → k ≢ e.key → find k (e ∷ es) ≡ find k es
find-rest k e es differ = elim (eqb_tells k e.key) [
  | inl is ↦ absurd (differ is.1)
  | inr unlike ↦ cond-false (k == e.key) (Some e.slot) (find k es) unlike.0
]

-- entries between lower and higher ones, with a key or without it
module _ (lower higher : List Entry) (key : ℕ) (sorted : AreSorted lower) (sorted2 : AreSorted higher) (under : AreUnder key lower)
    (over : Each (λ y. key < y.key) higher) where
  over_from : AreFrom (key + 1) higher
  over_from = each-map (λ y. key < y.key) (λ y. key + 1 ≤ y.key) higher (λ y l. omega (arith, l)) over

  -- an entry of this key
  pub found-with : (e : Entry) (k : ℕ) → e.key ≡ key
      → find k (lower ++ e ∷ higher) ≡ (if k == key then Some e.slot else or_second (find k lower) (find k higher))
  found-with e k keyed = elim (eqb_tells k key) [
    | inl same ↦
        find-append k lower (e ∷ higher)
        ∙ ap (λ (o : Option ℕ). or_second o (find k (e ∷ higher))) (find-under k lower (subst (λ (n : ℕ). AreUnder n lower) (sym same.1) under))
        ∙ find-first k e higher (same.1 ∙ sym keyed)
        ∙ sym (cond-true (k == key) (Some e.slot) (or_second (find k lower) (find k higher)) same.0)
    | inr unlike ↦
        find-append k lower (e ∷ higher)
        ∙ ap (or_second (find k lower)) (find-rest k e higher (λ is. unlike.1 (is ∙ keyed)))
        ∙ sym (cond-false (k == key) (Some e.slot) (or_second (find k lower) (find k higher)) unlike.0)
  ]

  pub found-without : (k : ℕ) → find k (lower ++ higher) ≡ (if k == key then None else or_second (find k lower) (find k higher))
  found-without k = elim (eqb_tells k key) [
    | inl same ↦
        find-append k lower higher
        ∙ ap (λ (o : Option ℕ). or_second o (find k higher)) (find-under k lower (subst (λ (n : ℕ). AreUnder n lower) (sym same.1) under))
        ∙ find-over k higher (subst (λ (n : ℕ). Each (λ y. n < y.key) higher) (sym same.1) over)
        ∙ sym (cond-true (k == key) None (or_second (find k lower) (find k higher)) same.0)
    | inr unlike ↦ find-append k lower higher ∙ sym (cond-false (k == key) None (or_second (find k lower) (find k higher)) unlike.0)
  ]

  pub sorted-with : (e : Entry) → e.key ≡ key → AreSorted (lower ++ e ∷ higher)
  sorted-with e keyed = sorted-join lower (e ∷ higher) key sorted
      (each-map (λ y. key < y.key) (λ y. e.key < y.key) higher (λ y l. omega (arith, l, keyed)) over, sorted2) under
      (omega (arith, keyed), each-map (λ y. key < y.key) (λ y. key ≤ y.key) higher (λ y l. omega (arith, l)) over)

  pub sorted-without : AreSorted (lower ++ higher)
  sorted-without = sorted-join lower higher (key + 1) sorted sorted2
      (each-map (λ y. y.key < key) (λ y. y.key < key + 1) lower (λ y l. omega (arith, l)) under) over_from

  -- none of these entries had the key
  pub puts-new : (e : Entry) → e.key ≡ key → Puts (lower ++ higher) key e.slot (lower ++ e ∷ higher)
  puts-new e keyed = record {
    sorted = sorted-with e keyed;
    found = λ k. found-with e k keyed ∙ ap (λ (o : Option ℕ). if k == key then Some e.slot else o) (sym (find-append k lower higher));
    under = λ n l all. each-join (λ y. y.key < n) lower (e ∷ higher) (each-left (λ y. y.key < n) lower higher all)
        (omega (arith, l, keyed), each-right (λ y. y.key < n) lower higher all);
    from = λ n l all. each-join (λ y. n ≤ y.key) lower (e ∷ higher) (each-left (λ y. n ≤ y.key) lower higher all)
        (omega (arith, l, keyed), each-right (λ y. n ≤ y.key) lower higher all);
  }

  -- one of them had it
  module _ (old : Entry) (was : old.key ≡ key) where
    old-or : (k : ℕ) (x : Option ℕ) → (if k == key then x else find k (lower ++ old ∷ higher)) ≡ (if k == key then x else or_second (find k lower) (find k higher))
    old-or k x = elim (eqb_tells k key) [
      | inl same ↦ cond-true (k == key) x (find k (lower ++ old ∷ higher)) same.0
          ∙ sym (cond-true (k == key) x (or_second (find k lower) (find k higher)) same.0)
      | inr unlike ↦ cond-false (k == key) x (find k (lower ++ old ∷ higher)) unlike.0
          ∙ found-with old k was
          ∙ cond-false (k == key) (Some old.slot) (or_second (find k lower) (find k higher)) unlike.0
          ∙ sym (cond-false (k == key) x (or_second (find k lower) (find k higher)) unlike.0)
    ]

    pub puts-again : (e : Entry) → e.key ≡ key → Puts (lower ++ old ∷ higher) key e.slot (lower ++ e ∷ higher)
    puts-again e keyed = record {
      sorted = sorted-with e keyed;
      found = λ k. found-with e k keyed ∙ sym (old-or k (Some e.slot));
      under = λ n l all. each-join (λ y. y.key < n) lower (e ∷ higher) (each-left (λ y. y.key < n) lower (old ∷ higher) all)
          (omega (arith, l, keyed), (each-right (λ y. y.key < n) lower (old ∷ higher) all).1);
      from = λ n l all. each-join (λ y. n ≤ y.key) lower (e ∷ higher) (each-left (λ y. n ≤ y.key) lower (old ∷ higher) all)
          (omega (arith, l, keyed), (each-right (λ y. n ≤ y.key) lower (old ∷ higher) all).1);
    }

    pub takes-one : Takes (lower ++ old ∷ higher) key (lower ++ higher)
    takes-one = record {
      sorted = sorted-without;
      found = λ k. found-without k ∙ sym (old-or k None);
      under = λ n all. each-join (λ y. y.key < n) lower higher (each-left (λ y. y.key < n) lower (old ∷ higher) all)
          (each-right (λ y. y.key < n) lower (old ∷ higher) all).1;
      from = λ n all. each-join (λ y. n ≤ y.key) lower higher (each-left (λ y. n ≤ y.key) lower (old ∷ higher) all)
          (each-right (λ y. n ≤ y.key) lower (old ∷ higher) all).1;
    }

  pub takes-none : Takes (lower ++ higher) key (lower ++ higher)
  takes-none = record {
    sorted = sorted-without;
    found = λ k. found-without k ∙ ap (λ (o : Option ℕ). if k == key then None else o) (sym (find-append k lower higher));
    under = λ n all. all;
    from = λ n all. all;
  }
