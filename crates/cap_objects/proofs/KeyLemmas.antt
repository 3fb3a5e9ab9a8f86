-- Functions with another value at one key, and owners that are an object.
use Rattle.std.proofs.Common.{◌≡◌, ◌≢◌, ℕ, Bool, true, false, ◌==◌, Some, None, Option, is_some, inl, inr, ◌⊎◌}
use Rattle.std.proofs.Common.{if◌then◌else◌, refl, sym, ap, ◌∙◌}
use Rattle.std.proofs.lemmas.{Bool.{cond-true, cond-false, false≢true, Decides.eqb_tells}, Option.{none-some, same_Some}}
use Rattle.cap_objects.specs.Counts.{at_key, is_owner}

-- either the key or another
pub at-either : {A : Type 0} (told : ℕ → A) (key : ℕ) (value : A) (other : ℕ)
    → ((key ≡ other) × (at_key told key value other ≡ value)) ⊎ ((key ≢ other) × (at_key told key value other ≡ told other))
at-either told key value other = elim (eqb_tells key other) [
  | inl same ↦ inl (same.1, cond-true (key == other) value (told other) same.0)
  | inr unlike ↦ inr (unlike.1, cond-false (key == other) value (told other) unlike.0)
]

pub at-same : {A : Type 0} (told : ℕ → A) (key : ℕ) (value : A) → at_key told key value key ≡ value
at-same told key value = elim (at-either told key value key) [
  | inl here ↦ here.1
  | inr away ↦ absurd (away.0 refl)
]

pub at-other : {A : Type 0} (told : ℕ → A) (key : ℕ) (value : A) (other : ℕ) → key ≢ other → at_key told key value other ≡ told other
at-other told key value other differ = elim (at-either told key value other) [
  | inl here ↦ absurd (differ here.0)
  | inr away ↦ away.1
]

pub is_owner-true : (object : ℕ) (owner : Option ℕ) → is_owner object owner ≡ true → owner ≡ Some object
is_owner-true object None h = absurd (false≢true h)
is_owner-true object (Some other) h = elim (eqb_tells object other) [
  | inl same ↦ ap Some (sym same.1)
  | inr unlike ↦ absurd (false≢true (sym unlike.0 ∙ h))
]

pub is_owner-self : (object : ℕ) (owner : Option ℕ) → owner ≡ Some object → is_owner object owner ≡ true
is_owner-self object None h = absurd (none-some object h)
is_owner-self object (Some other) h = elim (eqb_tells object other) [
  | inl same ↦ same.0
  | inr unlike ↦ absurd (unlike.1 (sym (same_Some other object h)))
]

pub choice_under : {A B : Type 0} (f : A → B) (b : Bool) (x y : A) → f (if b then x else y) ≡ (if b then f x else f y)
choice_under f true x y = refl
choice_under f false x y = refl

pub some_is : {A : Type 0} (o : Option A) → is_some o ≡ true → (x : A) × (o ≡ Some x)
some_is (Some x) h = (x, refl)
some_is None h = absurd (false≢true h)
