-- The operations on capabilities: for each its checks, in their order, and its result
-- (UCAM-CL-TR-987, the descriptions of CSetBounds, CSetBoundsExact, CSetAddr, CAndPerm, CSeal, CUnseal and
-- CClearTag for CHERI-RISC-V). The order of the checks, and that an untagged source meets none if no
-- authority is needed, are this profile's own.
use Rattle.std.specs.Prelude.{ℕ, ◌+◌, ◌*◌, ◌/◌, ◌%◌, ◌^◌, Bool, false, not, ◌&&◌, ◌==◌, nat_lt, nat_le, List, [], ◌∷◌}
use Rattle.std.specs.Prelude.{◌++◌, if◌then◌else◌, is_some, bit_and, ◌≡◌, IsTrue, None, Result, MatchResult}
use Rattle.cap_word.specs.{declared.word.Cap.Cap, Fields.{address_of, bit_of, otype_of, perms_of}}
use Rattle.cap_bounds.specs.{Bounds.{base_of, top_of, IsInside}, Range.with_address}
use Rattle.cap_bounds.specs.Rounding.{rounded_base, rounded_top, rounded_word}
use Rattle.cap_ops.specs.declared.{faults.OpFault.OpFault, refusal.Refusal.{Refusal, TheVariants.SourceUntagged}}
use Rattle.cap_ops.specs.declared.refusal.Refusal.TheVariants.{SourceSealed, BoundsEscape, NotExact, NotRepresentable}
use Rattle.cap_ops.specs.declared.refusal.Refusal.TheVariants.{AuthorityUntagged, AuthoritySealed, AuthorityPermission}
use Rattle.cap_ops.specs.declared.refusal.Refusal.TheVariants.{AuthorityBounds, TypeOutOfRange, TypeMismatch}
use Rattle.cap_ops.specs.Checks.{first_of}
use Rattle.cap_ops.specs.Permissions.{has_permission, perm_view_of, perms_from_view, is_sealed, with_perms, with_type}
use Rattle.cap_ops.specs.Permissions.{unsealed_type, greatest_type, permit_global, permit_seal, permit_unseal}

-- a capability with another word
abbrev pub with_word : Cap → ℕ → Cap
with_word cap w = record cap { word = record { 0 = w } }

-- a capability without its tag
abbrev pub cleared : Cap → Cap
cleared cap = record cap { tag = false }

-- the result in clear mode: untagged if a check fails
abbrev pub clear_result : List (Bool × Refusal) → Cap → Cap
clear_result checks result = if is_some (first_of checks) then cleared result else result

-- what has a tag in clear mode is what the strict operation gives: no check fails, and it is that result
abbrev pub IsStrictWhereTagged : List (Bool × Refusal) → Cap → Cap → Type 0
IsStrictWhereTagged checks result made = IsTrue made.tag → (first_of checks ≡ None) × (made ≡ result)

-- what a call gave, or where it refused the result without its tag
abbrev pub Clears : Result Cap OpFault → Cap → Cap → Type 0
Clears outcome result made = MatchResult outcome (λ cap. made ≡ cap) (λ fault. made ≡ cleared result)

-- the interval from base to top lies inside the bounds of a word
unfoldable pub covers : ℕ → ℕ → ℕ → Bool
covers w base top = nat_le (base_of w) base && nat_le top (top_of w)

-- a request needs no rounding
unfoldable pub is_exact : ℕ → ℕ → Bool
is_exact base size = rounded_base base size == base && rounded_top base size == base + size

-- an address keeps a word's bounds
unfoldable pub is_kept_at : ℕ → ℕ → Bool
is_kept_at w address = base_of (with_address w address) == base_of w && top_of (with_address w address) == top_of w

-- checks that an untagged source does not meet
abbrev pub on_tagged : Cap → List (Bool × Refusal) → List (Bool × Refusal)
on_tagged source checks = if source.tag then checks else []

-- setting bounds: the source is unsealed; the rounded request lies inside its bounds; if it has to be exact,
-- rounding changes nothing
unfoldable pub set_bounds_checks : Cap → ℕ → Bool → List (Bool × Refusal)
set_bounds_checks source size exact =
    let w = source.word.0 in
    let base = address_of w in
    let checks =
    (is_sealed w, SourceSealed)
    ∷ (not (covers w (rounded_base base size) (rounded_top base size)), BoundsEscape)
    ∷ (exact && not (is_exact base size), NotExact) ∷ [] in
    on_tagged source checks

-- the source with the rounded bounds of this size, from its address on
unfoldable pub set_bounds_result : Cap → ℕ → Cap
set_bounds_result source size = with_word source (rounded_word source.word.0 (address_of source.word.0) size)

-- the length from a capability's address on lies inside its bounds
abbrev pub HasRoomFor : Cap → ℕ → Type 0
HasRoomFor cap length = IsInside (address_of cap.word.0) (address_of cap.word.0 + length) (base_of cap.word.0) (top_of cap.word.0)

-- setting the address: the source is unsealed, and the address keeps its bounds
unfoldable pub set_addr_checks : Cap → ℕ → List (Bool × Refusal)
set_addr_checks source address =
    on_tagged source ((is_sealed source.word.0, SourceSealed) ∷ (not (is_kept_at source.word.0 address), NotRepresentable) ∷ [])

-- the source with another address
unfoldable pub set_addr_result : Cap → ℕ → Cap
set_addr_result source address = with_word source (with_address source.word.0 address)

-- removing permissions: the source is unsealed
unfoldable pub and_perm_checks : Cap → List (Bool × Refusal)
and_perm_checks source = on_tagged source ((is_sealed source.word.0, SourceSealed) ∷ [])

-- the source with the permissions that the mask has too, both in the view
unfoldable pub and_perm_result : Cap → ℕ → Cap
and_perm_result source mask = with_word source (with_perms source.word.0 (perms_from_view (bit_and (perm_view_of source.word.0) mask)))

-- an authority is tagged and unsealed, has the permission, and its bounds hold base to top
abbrev pub authority_checks : Cap → ℕ → ℕ → ℕ → List (Bool × Refusal)
authority_checks authority permission base top =
    (not authority.tag, AuthorityUntagged)
    ∷ (is_sealed authority.word.0, AuthoritySealed)
    ∷ (not (has_permission authority.word.0 permission), AuthorityPermission)
    ∷ (not (covers authority.word.0 base top), AuthorityBounds) ∷ []

-- an authority for object types has its own address, the type, inside its bounds
abbrev pub type_authority_checks : Cap → ℕ → List (Bool × Refusal)
type_authority_checks authority permission = authority_checks authority permission (address_of authority.word.0) (address_of authority.word.0 + 1)

-- sealing: the authority, then the type that it gives, then the source
unfoldable pub seal_checks : Cap → Cap → List (Bool × Refusal)
seal_checks source authority =
    type_authority_checks authority permit_seal
    ++ (nat_lt greatest_type (address_of authority.word.0), TypeOutOfRange)
    ∷ (not source.tag, SourceUntagged)
    ∷ (is_sealed source.word.0, SourceSealed) ∷ []

-- the source with the low 18 bits of the authority's address as its object type; the checks let no greater address
-- pass
unfoldable pub seal_result : Cap → Cap → Cap
seal_result source authority = with_word source (with_type source.word.0 (address_of authority.word.0 % 2 ^ 18))

-- unsealing: the authority, then the source: tagged, and sealed with the authority's address, which is no reserved
-- type
unfoldable pub unseal_checks : Cap → Cap → List (Bool × Refusal)
unseal_checks source authority =
    type_authority_checks authority permit_unseal
    ++ (not source.tag, SourceUntagged)
    ∷ (not (otype_of source.word.0 == address_of authority.word.0 && nat_le (otype_of source.word.0) greatest_type), TypeMismatch) ∷ []

-- the permissions of w; Global only if the other word has it too
abbrev pub perms_with_common_global : ℕ → ℕ → ℕ
perms_with_common_global w other = perms_of w / 2 * 2 + bit_of (has_permission w permit_global && has_permission other permit_global)

-- the source unsealed; it is global if the source and the authority are
unfoldable pub unseal_result : Cap → Cap → Cap
unseal_result source authority =
    with_word source (with_type (with_perms source.word.0 (perms_with_common_global source.word.0 authority.word.0)) unsealed_type)
