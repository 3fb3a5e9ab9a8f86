-- What follows where no test of a list holds, and from single tests.
use Rattle.std.proofs.Common.{◌++◌, ◌≡◌, ℕ, Bool, true, false, List, [], ◌∷◌, Some, None, if◌then◌else◌, refl, ap, ◌∙◌}
use Rattle.std.proofs.{Common.{◌⊎◌, inl, inr, sym, leb-true, le-leb}, lemmas.Bool.{and_parts, and_from}}
use Rattle.cap_word.specs.declared.word.Cap.{Cap}
use Rattle.cap_bounds.specs.Bounds.{base_of, top_of, IsInside}
use Rattle.cap_ops.specs.{declared.refusal.Refusal.Refusal, Checks.first_of, Operations.{covers, on_tagged}}

-- no test of a list holds
abbrev pub NoneHold : {F : Type 0} → List (Bool × F) → Type 0
NoneHold [] = Unit {0}
NoneHold (test ∷ checks) = (test.0 ≡ false) × NoneHold checks

head_fails : {F : Type 0} (test : Bool) (fault : F) (checks : List (Bool × F)) → first_of ((test, fault) ∷ checks) ≡ None
    → (test ≡ false) × (first_of checks ≡ None)
head_fails true fault checks h = cc
head_fails false fault checks h = (refl, h)

pub none_hold : {F : Type 0} (checks : List (Bool × F)) → first_of checks ≡ None → NoneHold checks
none_hold [] h = tt
none_hold (test ∷ checks) h = let p = head_fails test.0 test.1 checks h in (p.0, none_hold checks p.1)

if_tagged : {F : Type 0} (tagged : Bool) (checks : List (Bool × F)) → first_of (if tagged then checks else [])
    ≡ (if tagged then first_of checks else None)
if_tagged true checks = refl
if_tagged false checks = refl

-- a tagged source meets the tests for one, and an untagged one none
pub first_of-on_tagged : (source : Cap) (checks : List (Bool × Refusal))
    → first_of (on_tagged source checks) ≡ (if source.tag then first_of checks else None)
first_of-on_tagged source checks = if_tagged source.tag checks

pub on_tagged-true : (source : Cap) (checks : List (Bool × Refusal)) → source.tag ≡ true → first_of (on_tagged source checks) ≡ first_of checks
on_tagged-true source checks h = first_of-on_tagged source checks ∙ ap (λ (b : Bool). if b then first_of checks else None) h

pub none_hold-tagged : (source : Cap) (checks : List (Bool × Refusal)) → source.tag ≡ true
    → first_of (on_tagged source checks) ≡ None → NoneHold checks
none_hold-tagged source checks t h = none_hold checks (sym (on_tagged-true source checks t) ∙ h)

-- a word covers what lies inside its bounds
pub IsInside-covers : (w base top : ℕ) → covers w base top ≡ true → IsInside base top (base_of w) (top_of w)
unfolding covers
IsInside-covers w base top h = let p = and_parts _ _ h in (leb-true _ _ p.0, leb-true _ _ p.1)

pub covers-inside : (w base top : ℕ) → IsInside base top (base_of w) (top_of w) → covers w base top ≡ true
unfolding covers
covers-inside w base top h = and_from _ _ (le-leb _ _ h.0) (le-leb _ _ h.1)

-- where no test of a first list holds, the first of both is the second's
pub first_of-append_none : {F : Type 0} (xs ys : List (Bool × F)) → first_of xs ≡ None → first_of (xs ++ ys) ≡ first_of ys
first_of-append_none [] ys h = refl
first_of-append_none ((true, fault) ∷ xs) ys h = cc
first_of-append_none ((false, fault) ∷ xs) ys h = first_of-append_none xs ys h

-- and where one does, it is the first of both
pub first_of-append_some : {F : Type 0} (xs ys : List (Bool × F)) (fault : F) → first_of xs ≡ Some fault → first_of (xs ++ ys) ≡ Some fault
first_of-append_some [] ys fault h = cc
first_of-append_some ((true, other) ∷ xs) ys fault h = h
first_of-append_some ((false, other) ∷ xs) ys fault h = first_of-append_some xs ys fault h

-- the first of both is one of the first list, or no test of that holds
pub first_of-append : {F : Type 0} (xs ys : List (Bool × F)) (fault : F) → first_of (xs ++ ys) ≡ Some fault
    → (first_of xs ≡ Some fault) ⊎ ((first_of xs ≡ None) × (first_of ys ≡ Some fault))
first_of-append [] ys fault h = inr (refl, h)
first_of-append ((true, other) ∷ xs) ys fault h = inl h
first_of-append ((false, other) ∷ xs) ys fault h = first_of-append xs ys fault h

-- where no test of two lists holds, none of either does
pub first_of-append_free : {F : Type 0} (xs ys : List (Bool × F)) → first_of (xs ++ ys) ≡ None → (first_of xs ≡ None) × (first_of ys ≡ None)
first_of-append_free [] ys h = (refl, h)
first_of-append_free ((true, other) ∷ xs) ys h = cc
first_of-append_free ((false, other) ∷ xs) ys h = first_of-append_free xs ys h
