-- What follows from the tests of new bounds.
use Rattle.std.proofs.Common.{◌≡◌, ◌↔◌, ℕ, ◌+◌, ◌^◌, ◌<◌, ◌≤◌, Bool, true, false, not, ◌&&◌, [], ◌∷◌, Option, Some}
use Rattle.std.proofs.Common.{None, Result, Ok, Err, if◌then◌else◌, refl, sym, ap, ◌∙◌, arith, eqb-true, eq-eqb}
use Rattle.std.proofs.lemmas.{Bool.{both_ways, false_from_ne_true, not-false, and_parts, and_from}, Option.same_Some}
use Rattle.cap_word.specs.{declared.word.Cap.Cap, Fields.address_of}
use Rattle.cap_bounds.specs.Bounds.{base_of, top_of, IsInside, IsSound}
use Rattle.cap_bounds.specs.Rounding.{HasRounding, IsExact, bounded_word, rounded_base, rounded_top, rounded_ie}
use Rattle.cap_bounds.specs.Rounding.{rounded_exponent, rounded_b, rounded_t, rounded_word}
use Rattle.cap_bounds.proofs.{BoundedWords.above-bounded_word, LeastRounding.{IsInside-rounded, IsInside-requested}}
use Rattle.cap_bounds.proofs.RoundedWords.{AreFields-rounded, base_of-rounded_word, top_of-rounded_word}
use Rattle.cap_bounds.proofs.RoundedWords.{IsSound-rounded_word}
use Rattle.cap_ops.specs.declared.{faults.OpFault.OpFault, refusal.Refusal.Refusal}
use Rattle.cap_ops.specs.declared.refusal.Refusal.TheVariants.{SourceSealed, BoundsEscape, NotExact}
use Rattle.cap_ops.specs.{Authority.{ReachesNoMore, StaysWithin}, Checks.{Ends, first_of}}
use Rattle.cap_ops.specs.Operations.{HasRoomFor, covers, is_exact, set_bounds_checks, set_bounds_result, with_word}
use Rattle.cap_ops.specs.{Permissions.is_sealed, Refusals.refusal_of}
use Rattle.cap_ops.proofs.{PermissionLemmas.IsFewer-same, ReachLemmas.StaysWithin-words, ReplacedFields.perms_of-high}
use Rattle.cap_ops.proofs.TestLemmas.{IsInside-covers, covers-inside, first_of-on_tagged, none_hold-tagged}

pub IsExact-is_exact : (base length : ℕ) → is_exact base length ≡ true → IsExact base length
unfolding is_exact
IsExact-is_exact base length h = let p = and_parts _ _ h in (eqb-true _ _ p.0, eqb-true _ _ p.1)

pub is_exact-IsExact : (base length : ℕ) → IsExact base length → is_exact base length ≡ true
unfolding is_exact
is_exact-IsExact base length h = and_from _ _ (eq-eqb _ _ h.0) (eq-eqb _ _ h.1)

-- the word of a request inside a sound word reaches no more than it, and is sound
no_more_rounded : (w base length : ℕ) → base < 2 ^ 64 → length < 2 ^ 64
    → IsInside (rounded_base base length) (rounded_top base length) (base_of w) (top_of w) → IsSound w
    → ReachesNoMore (rounded_word w base length) w × IsSound (rounded_word w base length)
no_more_rounded w base length base_fits length_fits inside sound =
    let requested = IsInside-requested base length (base_of w) (top_of w) inside in
    let ends : base + length ≤ 2 ^ 64 = omega arith in
    let high = above-bounded_word w (rounded_ie length) (rounded_exponent base length) (rounded_b base length) (rounded_t base length)
    base base_fits (AreFields-rounded base length length_fits) in
    let v = rounded_word w base length in (
      record {
        inside = (
          omega (arith, base_of-rounded_word w base length base_fits length_fits ends),
          omega (arith, top_of-rounded_word w base length base_fits length_fits ends),
        );
        fewer = IsFewer-same v w (perms_of-high v w high);
      },
      IsSound-rounded_word w base length base_fits length_fits ends,
    )

-- rounded bounds lie inside a sound word's exactly where the requested ones do
pub covers-requested : (w base length : ℕ) → length < 2 ^ 64 → IsSound w → IsInside base (base + length) (base_of w) (top_of w)
    → covers w (rounded_base base length) (rounded_top base length) ≡ true
covers-requested w base length fits sound inside = covers-inside w _ _ (IsInside-rounded w base length fits sound inside)

pub covers-escaping : (w base length : ℕ) → (IsInside base (base + length) (base_of w) (top_of w) → ⊥)
    → covers w (rounded_base base length) (rounded_top base length) ≡ false
covers-escaping w base length outside = false_from_ne_true (covers w (rounded_base base length) (rounded_top base length))
    (λ h. outside (IsInside-requested base length (base_of w) (top_of w) (IsInside-covers w _ _ h)))

-- new bounds that no test refuses leave the source's authority
pub StaysWithin-set_bounds : (source : Cap) (length : ℕ) (exact : Bool) → length < 2 ^ 64
    → first_of (set_bounds_checks source length exact) ≡ None → StaysWithin (set_bounds_result source length) source
unfolding set_bounds_checks set_bounds_result
StaysWithin-set_bounds source length exact fits h =
    let w = source.word.0 in
    let base = address_of w in
    let base_fits : base < 2 ^ 64 = omega arith in
    StaysWithin-words (set_bounds_result source length) source refl (λ tagged sound.
    let fail = none_hold-tagged source ((is_sealed w, SourceSealed) ∷ (
      not (covers w (rounded_base base length) (rounded_top base length)),
      BoundsEscape,
    ) ∷ (exact && not (is_exact base length), NotExact) ∷ []) tagged h in
    no_more_rounded w base length base_fits fits (IsInside-covers w _ _ (not-false _ fail.1.0)) sound)

-- what new bounds are refused with
first_fault : Bool → Bool → Bool → Bool → Option Refusal
first_fault tagged is_sealed covered rounds = if tagged then (if is_sealed then Some SourceSealed else
    (if not covered then Some BoundsEscape else (if rounds then Some NotExact else None))) else None

first_of-set_bounds : (source : Cap) (length : ℕ) (exact : Bool) → first_of (set_bounds_checks source length exact)
    ≡ first_fault source.tag (is_sealed source.word.0) (covers source.word.0 (rounded_base (address_of source.word.0) length)
    (rounded_top (address_of source.word.0) length)) (exact && not (is_exact (address_of source.word.0) length))
unfolding set_bounds_checks first_fault
first_of-set_bounds source length exact =
    let w = source.word.0 in
    let base = address_of w in
    first_of-on_tagged source ((is_sealed w, SourceSealed) ∷ (
      not (covers w (rounded_base base length) (rounded_top base length)),
      BoundsEscape,
    ) ∷ (exact && not (is_exact base length), NotExact) ∷ [])

escapes_since : (tagged seal covered rounds : Bool) → tagged ≡ true → seal ≡ false → covered ≡ false
    → first_fault tagged seal covered rounds ≡ Some BoundsEscape
unfolding first_fault
escapes_since true false false rounds t u h = refl
escapes_since tagged seal covered rounds t u h = cc

held_since : (tagged seal covered rounds : Bool) → first_fault tagged seal covered rounds ≡ Some BoundsEscape
    → (tagged ≡ true) × (seal ≡ false)
unfolding first_fault
held_since true false covered rounds h = (refl, refl)
held_since tagged seal covered rounds h = cc

-- only a tagged, unsealed source meets that test
pub BoundsEscape-source : (source : Cap) (length : ℕ) (exact : Bool) → first_of (set_bounds_checks source length exact) ≡ Some BoundsEscape
    → (source.tag ≡ true) × (is_sealed source.word.0 ≡ false)
BoundsEscape-source source length exact h =
    held_since source.tag (is_sealed source.word.0) _ _ (sym (first_of-set_bounds source length exact) ∙ h)

passes_since : (tagged seal covered rounds : Bool) → tagged ≡ true → seal ≡ false → covered ≡ true → rounds ≡ false
    → first_fault tagged seal covered rounds ≡ None
unfolding first_fault
passes_since true false true false t u h k = refl
passes_since tagged seal covered rounds t u h k = cc

escaped_since : (tagged seal covered rounds : Bool) → first_fault tagged seal covered rounds ≡ Some BoundsEscape → covered ≡ false
unfolding first_fault
escaped_since true false true true h = cc
escaped_since true false false rounds h = refl
escaped_since tagged seal covered rounds h = cc

-- new bounds are refused for themselves exactly where the requested ones do not lie inside a sound source's
module _ (source : Cap) (length : ℕ) (exact : Bool) (fits : length < 2 ^ 64) (tagged : source.tag ≡ true)
    (unsealed : is_sealed source.word.0 ≡ false) (sound : IsSound source.word.0) where
  pub escapes_first : first_of (set_bounds_checks source length exact) ≡ Some BoundsEscape
      → HasRoomFor source length → ⊥
  escapes_first h inside =
      let w = source.word.0 in
      let base = address_of w in
      let lost = escaped_since source.tag (is_sealed w) _ (exact && not (is_exact base length))
      (sym (first_of-set_bounds source length exact) ∙ h) in
      both_ways _ lost (covers-inside w (rounded_base base length) (rounded_top base length)
      (IsInside-rounded w base length fits sound inside))

  pub first_escapes : (HasRoomFor source length → ⊥) → first_of (set_bounds_checks source length exact) ≡ Some BoundsEscape
  first_escapes outside =
      let w = source.word.0 in
      let base = address_of w in
      let lost = false_from_ne_true (covers w (rounded_base base length) (rounded_top base length))
      (λ h. outside (IsInside-requested base length (base_of w) (top_of w) (IsInside-covers w _ _ h))) in
      first_of-set_bounds source length exact ∙ escapes_since source.tag (is_sealed w) _
      (exact && not (is_exact base length)) tagged unsealed lost

  -- requested bounds inside the source's pass, where they may be rounded
  pub inside_passes : exact ≡ false → HasRoomFor source length → first_of (set_bounds_checks source length exact) ≡ None
  inside_passes inexact inside =
      let w = source.word.0 in
      let base = address_of w in
      let kept = covers-inside w (rounded_base base length) (rounded_top base length) (IsInside-rounded w base length fits sound inside) in
      first_of-set_bounds source length exact
      ∙ passes_since source.tag (is_sealed w) _ (exact && not (is_exact base length)) tagged unsealed kept
      (ap (λ (b : Bool). b && not (is_exact base length)) inexact)

-- the fault that is this refusal
same_fault : (fault : OpFault) → refusal_of fault ≡ BoundsEscape → fault ≡ OpFault.BoundsEscape
same_fault OpFault.BoundsEscape h = refl
same_fault fault h = cc

pub BoundsEscape-exact : (source : Cap) (length : ℕ) (exact : Bool) (result : Result Cap OpFault) → length < 2 ^ 64
    → Ends result (set_bounds_checks source length exact) (λ cap. cap ≡ set_bounds_result source length)
    → source.tag ≡ true → is_sealed source.word.0 ≡ false → IsSound source.word.0
    → (result ≡ Err OpFault.BoundsEscape) ↔ (HasRoomFor source length → ⊥)
BoundsEscape-exact source length exact (Ok cap) fits ends tagged unsealed sound =
    (λ e. cc, λ outside. let first = first_escapes source length exact fits tagged unsealed sound outside in cc)
BoundsEscape-exact source length exact (Err fault) fits ends tagged unsealed sound = (
  λ e. let which : fault ≡ OpFault.BoundsEscape = cc in escapes_first source length exact fits tagged unsealed sound
      (ends ∙ ap (λ (f : OpFault). Some (refusal_of f)) which),
  λ outside. ap Err (same_fault fault (same_Some _ _ (sym ends ∙ first_escapes source length exact fits tagged unsealed sound outside))),
)

-- the source with the word that the code makes is the result
pub set_bounds_result-made : (source : Cap) (v length : ℕ) (ie : Bool) (e b t address : ℕ) → address ≡ address_of source.word.0
    → HasRounding ie e b t (address_of source.word.0) length → v ≡ bounded_word source.word.0 ie e b t address
    → with_word source v ≡ set_bounds_result source length
unfolding set_bounds_result
set_bounds_result-made source v length ie e b t address at fields is_bounded =
    rw (is_bounded, fields.0, fields.1, fields.2, fields.3, at) refl
