-- Slots without a present object stay linked where one slot changes.
use Rattle.std.proofs.Common.{◌≡◌, ◌≢◌, ◌⊎◌, ◌<◌, ◌∷◌, [], ℕ, zero, suc, true, false, Some, None, List, IsSome, Option, inl, inr}
use Rattle.std.proofs.Common.{length, slice_get, slice_set, option_and_then, is_some, refl, Result, Ok, Err, OkIff, sym, ap, subst, ◌∙◌, arith}
use Rattle.std.specs.Result.{result_unwrap_or}
use Rattle.std.proofs.Math.Logic.{∥∥₁_elim, ∥∥₁_map}
use Rattle.std.proofs.lemmas.{Bool.{cases_Bool, cond-false, cond-true, false≢true, Decides.eqb_tells}, Option.{same_Some}}
use Rattle.cap_objects.specs.{declared.objects.Object.Object, Extents.{Sets, is_present}, FreeSlots.{AreFree, IsLinked}, Indexes.{kept, object_at}}

-- the one in a slot that another object comes to be in
module _ (xs ys : List Object) (slot : ℕ) (now : Object) (set : Sets (slice_get xs) slot (Some now) (slice_get ys)) where
  elsewhere : (s : ℕ) (o : Object) → s ≢ slot → slice_get xs s ≡ Some o → slice_get ys s ≡ Some o
  elsewhere s o unlike is = set.1 s unlike ∙ is

  -- links that don't lead from it stay
  module _ (was : Object) (there : slice_get xs slot ≡ Some was) (present : is_present was ≡ true) where
    links-stay : (links from to : ℕ) → IsLinked xs links from to → IsLinked ys links from to
    links-stay zero from to same = same
    links-stay (suc links) from to (o, is, free, more) = (
      o,
      elsewhere from o (λ here. false≢true (sym free ∙ ap is_present (same_Some o was (sym is ∙ ap (slice_get xs) here ∙ there)) ∙ present)) is,
      free,
      links-stay links o.number to more,
    )

    -- another present object
    pub free-set : (first : ℕ) → AreFree xs first → length ys ≡ length xs → is_present now ≡ true → AreFree ys first
    free-set first known long stays = record {
      few = omega (arith, known.few, long);
      linked = λ s o is free. elim (eqb_tells s slot) [
        | inl same ↦ absurd (false≢true (sym free ∙ ap is_present (same_Some o now (sym is ∙ ap (slice_get ys) same.1 ∙ set.0)) ∙ stays))
        | inr unlike ↦ ∥∥₁_map (known.linked s o (sym (set.1 s unlike.1) ∙ is) free) (λ l. (l.0, links-stay l.0 first s l.1))
      ];
    }

    -- none that is present: it becomes the first
    pub free-removed : (first : ℕ) → AreFree xs first → length ys ≡ length xs → is_present now ≡ false → now.number ≡ first → AreFree ys slot
    free-removed first known long gone next = record {
      few = omega (arith, known.few, long);
      linked = λ s o is free. elim (eqb_tells s slot) [
        | inl same ↦ ∣ (0, sym same.1) ∣₁
        | inr unlike ↦ ∥∥₁_map (known.linked s o (sym (set.1 s unlike.1) ∙ is) free) (λ l. (
          suc l.0,
          (now, set.0, gone, subst (λ (f : ℕ). IsLinked ys l.0 f s) (sym next) (links-stay l.0 first s l.1)),
        ))
      ];
    }

  -- it was the first: the next one becomes the first
  module _ (was : Object) (there : slice_get xs slot ≡ Some was) (present : is_present now ≡ true) where
    links-past : (links from to : ℕ) → to ≢ slot → IsLinked xs links from to
        → ((n : ℕ) × IsLinked ys n from to) ⊎ ((n : ℕ) × IsLinked ys n was.number to)
    links-past zero from to unlike same = inl (0, same)
    links-past (suc links) from to unlike (o, is, free, more) = elim (links-past links o.number to unlike more) [
      | inr past ↦ inr past
      | inl on ↦ elim (eqb_tells from slot) [
        | inl here ↦
            let alike = same_Some o was (sym is ∙ ap (slice_get xs) here.1 ∙ there) in
            inr (on.0, subst (λ (x : Object). IsLinked ys on.0 x.number to) alike on.1)
        | inr other ↦ inl (suc on.0, (o, elsewhere from o other.1 is, free, on.1))
      ]
    ]

    from-slot : (links to : ℕ) → to ≢ slot → IsLinked ys links slot to → ⊥
    from-slot zero to unlike same = unlike (sym same)
    from-slot (suc links) to unlike (o, is, free, more) = false≢true (sym free ∙ ap is_present (same_Some o now (sym is ∙ set.0)) ∙ present)

    pub free-used : AreFree xs slot → length ys ≡ length xs → AreFree ys was.number
    free-used known long = record {
      few = omega (arith, known.few, long);
      linked = λ s o is free. elim (eqb_tells s slot) [
        | inl same ↦ absurd (false≢true (sym free ∙ ap is_present (same_Some o now (sym is ∙ ap (slice_get ys) same.1 ∙ set.0)) ∙ present))
        | inr unlike ↦ ∥∥₁_map (known.linked s o (sym (set.1 s unlike.1) ∙ is) free) (λ l. elim (links-past l.0 slot s unlike.1 l.1) [
          | inl on ↦ absurd (from-slot on.0 s unlike.1 on.1)
          | inr past ↦ past
        ])
      ];
    }

-- where the first slot has a present object or isn't there, each slot has one
first-alone : (xs : List Object) (first : ℕ) → ((o : Object) → slice_get xs first ≡ Some o → is_present o ≡ true) → (slot : ℕ) (o : Object)
    → slice_get xs slot ≡ Some o → is_present o ≡ false → (links : ℕ) → IsLinked xs links first slot → ⊥
first-alone xs first none slot o is free zero same = false≢true (sym free ∙ none o (ap (slice_get xs) same ∙ is))
first-alone xs first none slot o is free (suc links) (x, there, gone, more) = false≢true (sym gone ∙ none x there)

pub all-present : (xs : List Object) (first : ℕ) → AreFree xs first → ((o : Object) → slice_get xs first ≡ Some o → is_present o ≡ true)
    → (slot : ℕ) (o : Object) → slice_get xs slot ≡ Some o → is_present o ≡ true
all-present xs first known none slot o is = elim (cases_Bool (is_present o)) [
  | inl there ↦ there
  | inr free ↦ absurd (∥∥₁_elim (known.linked slot o is free) (λ a b. absurd a) (λ l. first-alone xs first none slot o is free l.0 l.1))
]

-- a list with another element
set_here : (xs : List Object) (slot : ℕ) (o : Object) → slot < length xs → slice_get (slice_set xs slot o) slot ≡ Some o
set_here [] slot o low = absurd (omega (arith, low))
set_here (x ∷ xs) zero o low = refl
set_here (x ∷ xs) (suc slot) o low = set_here xs slot o (omega (arith, low))

set_elsewhere : (xs : List Object) (slot other : ℕ) (o : Object) → other ≢ slot → slice_get (slice_set xs slot o) other ≡ slice_get xs other
set_elsewhere [] slot other o unlike = refl
set_elsewhere (x ∷ xs) zero zero o unlike = absurd (unlike refl)
set_elsewhere (x ∷ xs) zero (suc other) o unlike = refl
set_elsewhere (x ∷ xs) (suc slot) zero o unlike = refl
set_elsewhere (x ∷ xs) (suc slot) (suc other) o unlike = set_elsewhere xs slot other o (λ e. unlike (ap suc e))

pub set-sets : (xs : List Object) (slot : ℕ) (o : Object) → slot < length xs → Sets (slice_get xs) slot (Some o) (slice_get (slice_set xs slot o))
set-sets xs slot o low = (set_here xs slot o low, λ other unlike. set_elsewhere xs slot other o unlike)

pub objects-set : (xs : List Object) (slot : ℕ) (o : Object) → slot < length xs → Sets (object_at xs) slot (kept o) (object_at (slice_set xs slot o))
objects-set xs slot o low =
    (ap (option_and_then kept) (set_here xs slot o low), λ other unlike. ap (option_and_then kept) (set_elsewhere xs slot other o unlike))

-- what is in a slot, where that is present
there_is : (o : Option Object) → IsSome (option_and_then kept o) → (x : Object) × (o ≡ Some x) × (is_present x ≡ true)
there_is None some = absurd (false≢true some)
there_is (Some x) some = elim (cases_Bool (is_present x)) [
  | inl there ↦ (x, refl, there)
  | inr gone ↦ absurd (false≢true (subst (λ (o : Option Object). is_some o ≡ true) (cond-false (is_present x) (Some x) None gone) some))
]

pub in_slot : (xs : List Object) (slot : ℕ) → IsSome (object_at xs slot)
    → (x : Object) × (slice_get xs slot ≡ Some x) × (is_present x ≡ true)
in_slot xs slot some = there_is (slice_get xs slot) some

pub kept-there : (o : Object) → is_present o ≡ true → kept o ≡ Some o
kept-there o is = cond-true (is_present o) (Some o) None is

pub kept-gone : (o : Object) → is_present o ≡ false → kept o ≡ None
kept-gone o is = cond-false (is_present o) (Some o) None is

-- a number that fits, as one of fewer bits
pub fitted : {E : Type 0} (n most other : ℕ) (r : Result ℕ E) → n < most → OkIff r (n < most) n → result_unwrap_or r other ≡ n
fitted n most other (Ok m) few is = is.1
fitted n most other (Err e) few is = absurd (is few)
