-- Counting an object's places, and counting one after another.
use Rattle.std.proofs.Common.{◌≡◌, ◌||◌, not, nat_lt, ℕ, ◌<◌, ◌+◌, ◌-◌, ◌⊎◌, Bool, true, false, Some, None, Option, List, inl, inr}
use Rattle.std.proofs.Common.{option_and_then, lt-ltb, refl, sym, ap, subst, ◌∙◌, arith}
use Rattle.std.proofs.lemmas.Bool.{cases_Bool, cases_lt, cond-true, cond-false, false≢true, Decides.eqb_tells}
use Rattle.cap_objects.specs.{Counts.one_for, declared.objects.Object.Object, Extents.{Objects, Sets, is_present}, Handed.{IsRecounted, held_of, with_held}}
use Rattle.cap_objects.specs.Indexes.{kept, object_at}
use Rattle.cap_objects.proofs.{BelowLemmas.one, SharingLemmas.present_at}

kept_is : (o : Object) → is_present o ≡ true → kept o ≡ Some o
kept_is o is = cond-true (is_present o) (Some o) None is

not_held : (freed : Bool) (held : ℕ) → (not freed || nat_lt 0 held) ≡ false → held ≡ 0
not_held false held is = absurd (false≢true (sym is))
not_held true held is = elim (cases_lt 0 held) [
  | inl some ↦ absurd (false≢true (sym is ∙ lt-ltb 0 held some))
  | inr none ↦ omega arith
]

abbrev pub recounted : ℕ → Option Object → Option Object
recounted count o = option_and_then (λ object. kept (with_held object count)) o

twice : (o : Option Object) (between count : ℕ) (mid : Option Object) → mid ≡ recounted between o → count ≡ held_of (recounted count mid)
    → recounted count mid ≡ recounted count o
twice None between count mid is held = ap (recounted count) is
twice (Some x) between count mid is held = elim (cases_Bool (is_present (with_held x between))) [
  | inl there ↦ ap (recounted count) (is ∙ kept_is (with_held x between) there)
  | inr gone ↦
      let mid_none : mid ≡ None = is ∙ cond-false (is_present (with_held x between)) (Some (with_held x between)) None gone in
      let none : count ≡ 0 = held ∙ ap (λ (m : Option Object). held_of (recounted count m)) mid_none in
      let was : between ≡ 0 = not_held x.freed between gone in
      ap (recounted count) mid_none ∙ sym (cond-false (is_present (with_held x count)) (Some (with_held x count)) None
      (subst (λ (n : ℕ). is_present (with_held x n) ≡ false) (was ∙ sym none) gone))
]

-- one count after another
pub recounted-twice : (old mid new : Objects) → IsRecounted old mid → IsRecounted mid new → IsRecounted old new
recounted-twice old mid new first second s = second s ∙ twice (old s) (held_of (mid s)) (held_of (new s)) (mid s) (first s) (ap held_of (second s))

-- an object that is present is counted as it is
as_it_is : (o : Option Object) → ((x : Object) → o ≡ Some x → is_present x ≡ true) → o ≡ recounted (held_of o) o
as_it_is None present = refl
as_it_is (Some x) present = sym (kept_is x (present x refl))

pub recounted-none : (xs : List Object) → IsRecounted (object_at xs) (object_at xs)
recounted-none xs s = as_it_is (object_at xs s) (present_at xs s)

held_kept : (x : Object) (count : ℕ) → held_of (kept (with_held x count)) ≡ count
held_kept x count = elim (cases_Bool (is_present (with_held x count))) [
  | inl there ↦ ap held_of (kept_is (with_held x count) there)
  | inr gone ↦
      ap held_of (cond-false (is_present (with_held x count)) (Some (with_held x count)) None gone) ∙ sym (not_held x.freed count gone)
]

kept_more : (x : Object) → kept (with_held x (x.held + 1)) ≡ Some (with_held x (x.held + 1))
kept_more x = elim (cases_Bool (is_present (with_held x (x.held + 1)))) [
  | inl there ↦ kept_is (with_held x (x.held + 1)) there
  | inr gone ↦ let none = not_held x.freed (x.held + 1) gone in absurd (omega (arith, none))
]

held_object : (o : Option Object) → 0 < held_of o → (x : Object) × (o ≡ Some x) × (0 < x.held)
held_object None some = absurd (omega arith)
held_object (Some x) some = (x, refl, some)

-- the object in one slot has another count
module _ (xs : List Object) (slot : ℕ) (new : Objects) where
  module _ (x : Object) (count : ℕ) (there : object_at xs slot ≡ Some x) (set : Sets (object_at xs) slot (kept (with_held x count)) new) where
    held : held_of (new slot) ≡ count
    held = ap held_of set.0 ∙ held_kept x count

    recounted-one : IsRecounted (object_at xs) new
    recounted-one s = elim (eqb_tells s slot) [
      | inl same ↦
          subst (λ (t : ℕ). new t ≡ recounted (held_of (new t)) (object_at xs t)) (sym same.1)
          (set.0 ∙ ap (λ (n : ℕ). kept (with_held x n)) (sym held) ∙ ap (recounted (held_of (new slot))) (sym there))
      | inr unlike ↦ subst (λ (o : Option Object). o ≡ recounted (held_of o) (object_at xs s)) (sym (set.1 s unlike.1)) (recounted-none xs s)
    ]

    here_or_away : (s : ℕ) → ((one_for s (Some slot) ≡ 1) × (held_of (new s) ≡ count) × (held_of (object_at xs s) ≡ x.held))
        ⊎ ((one_for s (Some slot) ≡ 0) × (held_of (new s) ≡ held_of (object_at xs s)))
    here_or_away s = elim (eqb_tells s slot) [
      | inl same ↦
          inl (ap one same.0, ap (λ (t : ℕ). held_of (new t)) same.1 ∙ held, ap (λ (t : ℕ). held_of (object_at xs t)) same.1 ∙ ap held_of there)
      | inr unlike ↦ inr (ap one unlike.0, ap held_of (set.1 s unlike.1))
    ]

  pub counted-up : 0 < held_of (object_at xs slot)
      → ((x : Object) → object_at xs slot ≡ Some x → Sets (object_at xs) slot (Some (with_held x (x.held + 1))) new)
      → ((s : ℕ) → held_of (new s) ≡ held_of (object_at xs s) + one_for s (Some slot)) × IsRecounted (object_at xs) new
  counted-up some sets =
      let x = held_object (object_at xs slot) some in
      let set = subst (λ (o : Option Object). Sets (object_at xs) slot o new) (sym (kept_more x.0)) (sets x.0 x.1) in (
        λ s. elim (here_or_away x.0 (x.0.held + 1) x.1 set s) [
          | inl here ↦ omega arith
          | inr away ↦ omega arith
        ],
        recounted-one x.0 (x.0.held + 1) x.1 set,
      )

  pub counted-down : 0 < held_of (object_at xs slot)
      → ((x : Object) → object_at xs slot ≡ Some x → Sets (object_at xs) slot (kept (with_held x (x.held - 1))) new)
      → ((s : ℕ) → held_of (new s) + one_for s (Some slot) ≡ held_of (object_at xs s)) × IsRecounted (object_at xs) new
  counted-down some sets =
      let x = held_object (object_at xs slot) some in
      let set = sets x.0 x.1 in (
        λ s. elim (here_or_away x.0 (x.0.held - 1) x.1 set s) [
          | inl here ↦ omega (arith, x.2)
          | inr away ↦ omega arith
        ],
        recounted-one x.0 (x.0.held - 1) x.1 set,
      )
