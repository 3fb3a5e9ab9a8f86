-- Access to memory through an authority: its checks, in their order (UCAM-CL-TR-987, the
-- descriptions of loads and stores by an explicit capability for CHERI-RISC-V; the order of the checks, and
-- that data have to be aligned, are this profile's own).
use Rattle.std.specs.Prelude.{◌≡◌, ℕ, ◌+◌, ◌%◌, ◌^◌, ◌≤◌, ℤ, Bool, not, ◌&&◌, ◌==◌, List, [], ◌∷◌, ◌++◌, IsTrue}
use Rattle.std.specs.Int.{cast_unsigned, w64}
use Rattle.cap_word.specs.{declared.word.Cap.Cap, Fields.address_of}
use Rattle.cap_bounds.specs.Bounds.{base_of, top_of}
use Rattle.cap_ops.specs.declared.{kinds.Kind.{Kind, TheVariants.{StoreData, StoreCap}}, refusal.Refusal.Refusal}
use Rattle.cap_ops.specs.declared.refusal.Refusal.TheVariants.{Misaligned, StoreCapPermission, StoreLocalPermission}
use Rattle.cap_ops.specs.Operations.{authority_checks}
use Rattle.cap_ops.specs.Permissions.{has_permission, permit_global, permit_load, permit_store, permit_load_capability}
use Rattle.cap_ops.specs.Permissions.{permit_store_capability, permit_store_local_capability}

-- the address of an access: the authority's plus the offset, modulo 2 ^ 64
unfoldable pub access_address : ℕ → ℤ → ℕ
access_address w offset = (address_of w + cast_unsigned w64 offset) % 2 ^ 64

-- the permission that each kind of access needs
abbrev pub permission_for : Kind → ℕ
permission_for StoreData = permit_store
permission_for (StoreCap stored) = permit_store
permission_for kind = permit_load

-- storing a tagged capability needs Store Capability, and Store Local Capability too if it is not global
abbrev pub stored_checks : ℕ → Kind → List (Bool × Refusal)
stored_checks w (StoreCap stored) =
    let is_local = not (has_permission stored.word.0 permit_global) in
    (stored.tag && not (has_permission w permit_store_capability), StoreCapPermission)
    ∷ (stored.tag && is_local && not (has_permission w permit_store_local_capability), StoreLocalPermission) ∷ []
stored_checks w kind = []

-- an access: its authority holds all its bytes, its address is a multiple of its size, and what it stores may be
-- stored
unfoldable pub access_checks : Cap → Kind → ℤ → ℕ → List (Bool × Refusal)
access_checks authority kind offset size =
    let address = access_address authority.word.0 offset in
    authority_checks authority (permission_for kind) address (address + size)
    ++ (not (address % size == 0), Misaligned) ∷ stored_checks authority.word.0 kind

-- an access that fails no check lies in the authority's bounds, has its permission, and is aligned
pub record IsAllowed (w address size permission : ℕ) : Type 0 where
  pub from : base_of w ≤ address
  pub until : address + size ≤ top_of w
  pub aligned : address % size ≡ 0
  pub permits : IsTrue (has_permission w permission)

-- a loaded capability keeps its tag if the authority has Load Capability
unfoldable pub loaded_result : Cap → Cap → Cap
loaded_result authority stored = record stored { tag = stored.tag && has_permission authority.word.0 permit_load_capability }
