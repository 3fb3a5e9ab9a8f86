-- The words that a machine starts from (UCAM-CL-TR-987, the section on capability reset state: unsealed, with the flag
-- and the reserved bits 0).
use Rattle.std.specs.Prelude.{◌≡◌, ℕ, ◌+◌, ◌*◌, ◌/◌, ◌%◌, ◌^◌, ◌≤◌, false}
use Rattle.cap_word.specs.Fields.{address_of, flag_of, otype_of, reserved_of}
use Rattle.cap_bounds.specs.{Bounds.{IsSound, base_of, top_of}, Rounding.{rounded_base, rounded_top}}
use Rattle.cap_ops.specs.Permissions.{perm_view_of, unsealed_type}

-- there is a root with these bounds and permissions: they end at or below 2 ^ 64, and the view has no bit that stands
-- for no permission (this profile's own)
pub record IsRootRequest (base length view : ℕ) : Type 0 where
  pub ends : base + length ≤ 2 ^ 64
  pub view_is : view % 2 ^ 12 + view / 2 ^ 15 % 2 ^ 4 * 2 ^ 15 ≡ view

-- a word is the root with these bounds, rounded, and these permissions, at its base (this profile's own)
pub record IsRoot (w base length view : ℕ) : Type 0 where
  pub permissions : perm_view_of w ≡ view
  pub otype : otype_of w ≡ unsealed_type
  pub flag : flag_of w ≡ false
  pub reserved : reserved_of w ≡ 0
  pub address : address_of w ≡ base
  pub base_is : base_of w ≡ rounded_base base length
  pub top_is : top_of w ≡ rounded_top base length
  pub sound : IsSound w
