-- What the word of a root is: its fields above IE, and the bounds of the whole address space.
use Rattle.std.proofs.Common.{◌≡◌, ℕ, ◌+◌, ◌*◌, ◌/◌, ◌%◌, ◌^◌, false, nat_eq, ap, ◌∙◌, refl, arith}
use Rattle.cap_word.specs.{Fields.{address_of, flag_of, otype_of, reserved_of}, Word.null_word}
use Rattle.cap_bounds.specs.Bounds.{IsSound, base_of, top_of, length_of, raw_base_at, top_at, mantissa_of}
use Rattle.cap_bounds.specs.Rounding.{rounded_base, rounded_top, rounded_exponent, first_exponent}
use Rattle.cap_bounds.proofs.SameFields.{base_of-low, top_of-low, IsSound-low}
use Rattle.cap_ops.specs.{Permissions.{perm_view_of, perms_from_view, unsealed_type, with_perms}, Roots.IsRoot}
use Rattle.cap_ops.proofs.ReplacedFields.{with_perms-low}

-- a number whose bits all stand for permissions
abbrev IsView : ℕ → Type 0
IsView view = view % 2 ^ 12 + view / 2 ^ 15 % 2 ^ 4 * 2 ^ 15 ≡ view

-- NULL with the permissions of a view
abbrev permitted : ℕ → ℕ
permitted view = with_perms null_word (perms_from_view view)

-- a word that is NULL with the permissions of a view in all bits above IE has them, and NULL's other fields there
module _ (w view : ℕ) (high : w / 2 ^ 91 ≡ permitted view / 2 ^ 91) where
  pub perm_view_of-high : IsView view → perm_view_of w ≡ view
  unfolding perm_view_of perms_from_view
  perm_view_of-high is_view = omega arith

  pub otype_of-high : otype_of w ≡ unsealed_type
  otype_of-high = omega arith

  pub reserved_of-high : reserved_of w ≡ 0
  reserved_of-high = omega arith

  flag_bit : w / 2 ^ 109 % 2 ≡ 0
  flag_bit = omega arith

  pub flag_of-high : flag_of w ≡ false
  flag_of-high = ap (λ (x : ℕ). nat_eq x 1) flag_bit

-- NULL's bounds are those of the whole address space
whole_base : base_of null_word ≡ rounded_base 0 (2 ^ 64)
unfolding base_of raw_base_at rounded_base rounded_exponent first_exponent
whole_base = refl

whole_top : top_of null_word ≡ rounded_top 0 (2 ^ 64)
unfolding top_of top_at raw_base_at length_of mantissa_of rounded_top rounded_exponent first_exponent
whole_top = refl

whole_sound : IsSound null_word
unfolding base_of top_of top_at raw_base_at length_of mantissa_of
whole_sound = (refl, omega arith)

-- NULL with the permissions of a view is the root over the whole address space
pub IsRoot-whole : (w view : ℕ) → w ≡ permitted view → IsView view → IsRoot w 0 (2 ^ 64) view
IsRoot-whole w view e is_view =
    let high : w / 2 ^ 91 ≡ permitted view / 2 ^ 91 = omega arith in
    let low : w % 2 ^ 91 ≡ null_word % 2 ^ 91 = ap (λ (x : ℕ). x % 2 ^ 91) e ∙ with_perms-low null_word (perms_from_view view) in
    record {
      permissions = perm_view_of-high w view high is_view;
      otype = otype_of-high w view high;
      flag = flag_of-high w view high;
      reserved = reserved_of-high w view high;
      address = omega arith;
      base_is = base_of-low w null_word low ∙ whole_base;
      top_is = top_of-low w null_word low ∙ whole_top;
      sound = IsSound-low w null_word low whole_sound;
    }

-- with the bounds of a request below IE it is the root with these
pub IsRoot-bounded : (w base length view : ℕ) → w / 2 ^ 91 ≡ permitted view / 2 ^ 91 → IsView view → address_of w ≡ base
    → (base_of w ≡ rounded_base base length) × (top_of w ≡ rounded_top base length) × IsSound w → IsRoot w base length view
IsRoot-bounded w base length view high is_view at decoded = record {
  permissions = perm_view_of-high w view high is_view;
  otype = otype_of-high w view high;
  flag = flag_of-high w view high;
  reserved = reserved_of-high w view high;
  address = at;
  base_is = decoded.0;
  top_is = decoded.1;
  sound = decoded.2;
}
