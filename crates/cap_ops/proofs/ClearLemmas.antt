-- The results of clear mode.
use Rattle.std.proofs.Common.{◌≡◌, ◌↔◌, ℕ, ◌^◌, ◌<◌, true, false, Bool, List, Some, None, Option, is_some, Result, Ok}
use Rattle.std.proofs.{Common.{Err, refl, sym, ap, subst, ◌∙◌, if◌then◌else◌}, lemmas.Bool.{false≢true}}
use Rattle.cap_word.specs.declared.word.Cap.{Cap}
use Rattle.cap_bounds.specs.Bounds.{IsSound}
use Rattle.cap_ops.specs.{declared.{faults.OpFault.OpFault, refusal.Refusal.Refusal}, Authority.StaysWithin}
use Rattle.cap_ops.specs.{Checks.{Ends, first_of}, Operations.{Clears, HasRoomFor, IsStrictWhereTagged, clear_result}}
use Rattle.cap_ops.specs.{Operations.{cleared, set_bounds_checks, set_bounds_result}, Permissions.is_sealed}
use Rattle.cap_ops.proofs.{NarrowingLemmas.{first_escapes, inside_passes}, ReachLemmas.StaysWithin-same}

-- what has no tag stays within anything
pub StaysWithin-untagged : (cap source : Cap) → StaysWithin (cleared cap) source
StaysWithin-untagged cap source = record {
  from_tagged = λ held. absurd (false≢true held);
  no_more = λ held sound. absurd (false≢true held);
  sound = λ held sound. absurd (false≢true held);
}

pub clear_result-none : (checks : List (Bool × Refusal)) (result : Cap) → first_of checks ≡ None → clear_result checks result ≡ result
clear_result-none checks result free = ap (λ (o : Option Refusal). if is_some o then cleared result else result) free

pub clear_result-some : (checks : List (Bool × Refusal)) (result : Cap) (fault : Refusal) → first_of checks ≡ Some fault
    → clear_result checks result ≡ cleared result
clear_result-some checks result fault found = ap (λ (o : Option Refusal). if is_some o then cleared result else result) found

-- what stays within a source where no test holds, stays within it in clear mode
pub StaysWithin-clear : (checks : List (Bool × Refusal)) (result source : Cap) → (first_of checks ≡ None → StaysWithin result source)
    → StaysWithin (clear_result checks result) source
StaysWithin-clear checks result source within =
    elim (first_of checks) as (λ o. first_of checks ≡ o → StaysWithin (clear_result checks result) source) [
      | None ↦ λ free. subst (λ (cap : Cap). StaysWithin cap source) (sym (clear_result-none checks result free)) (within free)
      | Some fault ↦ λ found. subst (λ (cap : Cap). StaysWithin cap source) (sym (clear_result-some checks result fault found))
          (StaysWithin-untagged result source)
    ] refl

-- a call's outcome, or the result without its tag
clear_result-outcome : (outcome : Result Cap OpFault) (checks : List (Bool × Refusal)) (result made : Cap)
    → Ends outcome checks (λ cap. cap ≡ result) → Clears outcome result made
    → made ≡ clear_result checks result
clear_result-outcome (Ok cap) checks result made ends clears = clears ∙ ends.1 ∙ sym (clear_result-none checks result ends.0)
clear_result-outcome (Err fault) checks result made ends clears = clears ∙ sym (clear_result-some checks result _ ends)

-- what has a tag in clear mode is the strict result
strict_where_tagged : (checks : List (Bool × Refusal)) (result made : Cap) → made ≡ clear_result checks result
    → IsStrictWhereTagged checks result made
strict_where_tagged checks result made is =
    elim (first_of checks) as (λ o. first_of checks ≡ o → IsStrictWhereTagged checks result made) [
      | None ↦ λ free. λ held. (free, is ∙ clear_result-none checks result free)
      | Some fault ↦ λ found. λ held. absurd (false≢true (sym (ap (λ (cap : Cap). cap.tag)
          (is ∙ clear_result-some checks result fault found)) ∙ held))
    ] refl

-- what a call in clear mode gives, whose strict call ends so
pub in_clear_mode : (outcome : Result Cap OpFault) (checks : List (Bool × Refusal)) (result unchecked made source : Cap)
    → Ends outcome checks (λ cap. cap ≡ result) → unchecked ≡ result → Clears outcome unchecked made
    → (first_of checks ≡ None → StaysWithin result source)
    → (made ≡ clear_result checks result) × IsStrictWhereTagged checks result made × StaysWithin made source
in_clear_mode outcome checks result unchecked made source ends same clears within =
    let is = clear_result-outcome outcome checks result made ends (subst (λ (cap : Cap). Clears outcome cap made) same clears) in (
      is,
      strict_where_tagged checks result made is,
      StaysWithin-same made _ source is (StaysWithin-clear checks result source within),
    )

set_bounds_tag : (source : Cap) (length : ℕ) → (set_bounds_result source length).tag ≡ source.tag
unfolding set_bounds_result
set_bounds_tag source length = refl

-- new bounds of a tagged, unsealed source lose its tag exactly where the requested ones do not lie inside its own
pub untagged_where_beyond : (source : Cap) (length : ℕ) (exact : Bool) (made : Cap) → length < 2 ^ 64
    → made ≡ clear_result (set_bounds_checks source length exact) (set_bounds_result source length)
    → exact ≡ false → source.tag ≡ true → is_sealed source.word.0 ≡ false → IsSound source.word.0
    → (made.tag ≡ false) ↔ (HasRoomFor source length → ⊥)
untagged_where_beyond source length exact made fits is inexact tagged unsealed sound =
    let checks = set_bounds_checks source length exact in
    let result = set_bounds_result source length in
    let tag_of = λ (cap : Cap). cap.tag in (
      λ lost inside.
          let same = is ∙ clear_result-none checks result (inside_passes source length exact fits tagged unsealed sound inexact inside) in
          false≢true (sym lost ∙ ap tag_of same ∙ set_bounds_tag source length ∙ tagged),
      λ outside. ap tag_of (is ∙ clear_result-some checks result _ (first_escapes source length exact fits tagged unsealed sound outside)),
    )
