-- What follows from the tests of a new address.
use Rattle.std.proofs.Common.{◌≡◌, ◌↔◌, ℕ, ◌+◌, ◌/◌, ◌%◌, ◌^◌, ◌<◌, ◌≤◌, Bool, true, false, not, [], ◌∷◌, Option, Some}
use Rattle.std.proofs.Common.{None, Result, Ok, Err, if◌then◌else◌, refl, sym, ap, ◌∙◌, arith, subst, eqb-true, eq-eqb}
use Rattle.std.proofs.lemmas.Bool.{both_ways, not-false, and_parts, and_from}
use Rattle.cap_word.specs.declared.word.Cap.{Cap}
use Rattle.cap_bounds.specs.{Bounds.{base_of, top_of}, Range.{KeepsBounds, IsRepresentable, with_address}}
use Rattle.cap_bounds.proofs.Keeping.{KeepsBounds-from_range, IsRepresentable-from_keeps, KeepsBounds-margins}
use Rattle.cap_bounds.proofs.SameFields.{IsSound-with_address}
use Rattle.cap_ops.specs.declared.{faults.OpFault.OpFault, refusal.Refusal.Refusal}
use Rattle.cap_ops.specs.{declared.refusal.Refusal.TheVariants.{SourceSealed, NotRepresentable}, Authority.StaysWithin}
use Rattle.cap_ops.specs.{Checks.{Ends, first_of}, Operations.{is_kept_at, set_addr_checks, set_addr_result}}
use Rattle.cap_ops.specs.{Permissions.is_sealed, Refusals.refusal_of}
use Rattle.cap_ops.proofs.{PermissionLemmas.IsFewer-same, ReachLemmas.{ReachesNoMore-same, StaysWithin-words}}
use Rattle.cap_ops.proofs.{ReplacedFields.perms_of-high, TestLemmas.{first_of-on_tagged, none_hold-tagged}}

pub KeepsBounds-kept : (w address : ℕ) → is_kept_at w address ≡ true → KeepsBounds w address
unfolding is_kept_at
KeepsBounds-kept w address h = let p = and_parts _ _ h in (eqb-true _ _ p.0, eqb-true _ _ p.1)

pub kept-KeepsBounds : (w address : ℕ) → KeepsBounds w address → is_kept_at w address ≡ true
unfolding is_kept_at
kept-KeepsBounds w address h = and_from _ _ (eq-eqb _ _ h.0) (eq-eqb _ _ h.1)

-- a new address that no test refuses leaves the source's authority
pub StaysWithin-set_addr : (source : Cap) (address : ℕ) → address < 2 ^ 64 → first_of (set_addr_checks source address) ≡ None
    → StaysWithin (set_addr_result source address) source
unfolding set_addr_checks set_addr_result
StaysWithin-set_addr source address fits h =
    let w = source.word.0 in
    let v = with_address w address in
    let high : v / 2 ^ 91 ≡ w / 2 ^ 91 = omega arith in
    StaysWithin-words (set_addr_result source address) source refl (λ tagged sound.
    let fail = none_hold-tagged source ((is_sealed w, SourceSealed) ∷ (not (is_kept_at w address), NotRepresentable) ∷ []) tagged h in
    let kept = KeepsBounds-kept w address (not-false _ fail.1.0) in
    (ReachesNoMore-same v w kept.0 kept.1 (IsFewer-same v w (perms_of-high v w high)), IsSound-with_address w address fits kept sound))

-- what a new address is refused with
first_fault : Bool → Bool → Bool → Option Refusal
first_fault tagged is_sealed kept =
    if tagged then (if is_sealed then Some SourceSealed else (if not kept then Some NotRepresentable else None)) else None

first_of-set_addr : (source : Cap) (address : ℕ) → first_of (set_addr_checks source address)
    ≡ first_fault source.tag (is_sealed source.word.0) (is_kept_at source.word.0 address)
unfolding set_addr_checks first_fault
first_of-set_addr source address =
    first_of-on_tagged source ((is_sealed source.word.0, SourceSealed) ∷ (not (is_kept_at source.word.0 address), NotRepresentable) ∷ [])

kept_since : (tagged seal kept : Bool) → tagged ≡ true → seal ≡ false → first_fault tagged seal kept ≡ None → kept ≡ true
unfolding first_fault
kept_since true false true t u h = refl
kept_since tagged seal kept t u h = cc

fault_since : (tagged seal kept : Bool) (fault : Refusal) → tagged ≡ true → seal ≡ false
    → first_fault tagged seal kept ≡ Some fault → fault ≡ NotRepresentable
unfolding first_fault
fault_since true false true fault t u h = cc
fault_since tagged seal kept fault t u h = cc

lost_since : (tagged seal kept : Bool) → first_fault tagged seal kept ≡ Some NotRepresentable → kept ≡ false
unfolding first_fault
lost_since true false false h = refl
lost_since tagged seal kept h = cc

-- where a new address is refused for itself, it does not keep the bounds
lost : (source : Cap) (address : ℕ) → first_of (set_addr_checks source address) ≡ Some NotRepresentable
    → KeepsBounds source.word.0 address → ⊥
lost source address h keeps =
    let not_kept = lost_since source.tag (is_sealed source.word.0) (is_kept_at source.word.0 address)
    (sym (first_of-set_addr source address) ∙ h) in
    both_ways _ not_kept (kept-KeepsBounds source.word.0 address keeps)

-- the fault that is this refusal
same_fault : (fault : OpFault) → refusal_of fault ≡ NotRepresentable → fault ≡ OpFault.NotRepresentable
same_fault OpFault.NotRepresentable h = refl
same_fault fault h = cc

-- a new address is refused exactly outside the representable range
pub NotRepresentable-exact : (source : Cap) (address : ℕ) (result : Result Cap OpFault) → address < 2 ^ 64
    → Ends result (set_addr_checks source address) (λ cap. cap ≡ set_addr_result source address)
    → source.tag ≡ true → is_sealed source.word.0 ≡ false → (result ≡ Err OpFault.NotRepresentable) ↔ (IsRepresentable source.word.0 address → ⊥)
NotRepresentable-exact source address (Ok cap) fits ends tagged unsealed =
    let w = source.word.0 in
    let kept = kept_since source.tag (is_sealed w) (is_kept_at w address) tagged unsealed
    (sym (first_of-set_addr source address) ∙ ends.0) in
    (λ e. cc, λ outside. absurd (outside (IsRepresentable-from_keeps w address fits (KeepsBounds-kept w address kept))))
NotRepresentable-exact source address (Err fault) fits ends tagged unsealed =
    let w = source.word.0 in
    let which = fault_since source.tag (is_sealed w) (is_kept_at w address) (refusal_of fault) tagged unsealed
    (sym (first_of-set_addr source address) ∙ ends) in
    (λ _ inside. lost source address (ends ∙ ap Some which) (KeepsBounds-from_range w address fits inside), λ _. ap Err (same_fault fault which))

-- and so never from the base to the top
pub NotRepresentable-near : (source : Cap) (address : ℕ) (result : Result Cap OpFault) → address < 2 ^ 64
    → Ends result (set_addr_checks source address) (λ cap. cap ≡ set_addr_result source address)
    → base_of source.word.0 ≤ address → address ≤ top_of source.word.0 → result ≡ Err OpFault.NotRepresentable → ⊥
NotRepresentable-near source address (Ok cap) fits ends from until e = cc
NotRepresentable-near source address (Err fault) fits ends from until e =
    let w = source.word.0 in
    let which : fault ≡ OpFault.NotRepresentable = cc in
    let above = KeepsBounds-margins w (address + 2 ^ 64) (omega arith) (omega arith) in
    let same : (address + 2 ^ 64) % 2 ^ 64 ≡ address = omega arith in
    lost source address (ends ∙ ap (λ (f : OpFault). Some (refusal_of f)) which) (subst (KeepsBounds w) same above)
