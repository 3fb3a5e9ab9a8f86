-- Words that share the fields that bounds come from. Base, top and length depend on the word modulo
-- 2 ^ 91 alone: not on its permissions, reserved bits, flag or object type.
use Rattle.std.proofs.Common.{◌≡◌, ℕ, ◌+◌, ◌/◌, ◌%◌, ◌^◌, ◌<◌, ◌≤◌, min, ◌==◌, sym, ap, ◌∙◌, arith, refl, subst}
use Rattle.cap_word.specs.Fields.{ie_of, e_of, b_of, t_of, address_of, b_field, t_field}
use Rattle.cap_bounds.specs.Bounds.{IsSound, cut_exponent_of, raw_base_at, top_at, base_of, top_of, length_of}
use Rattle.cap_bounds.specs.Range.{KeepsBounds, with_address}
use Rattle.cap_bounds.proofs.{BoundedWords.{e_from, cut_from}, Decoded.length_is}

-- two words with the same bits 64 .. 90
module _ (v w : ℕ) (same : v / 2 ^ 64 % 2 ^ 27 ≡ w / 2 ^ 64 % 2 ^ 27) where
  t_same : t_field v ≡ t_field w
  t_same = omega arith

  b_same : b_field v ≡ b_field w
  b_same = omega arith

  pub ie_of-same : ie_of v ≡ ie_of w
  ie_of-same = ap (λ (x : ℕ). x == 1) (let bit : v / 2 ^ 90 % 2 ≡ w / 2 ^ 90 % 2 = omega arith in bit)

  pub e_of-same : e_of v ≡ e_of w
  unfolding e_from
  e_of-same = rw (ie_of-same, t_same, b_same) refl

  pub b_of-same : b_of v ≡ b_of w
  unfolding cut_from
  b_of-same = rw (ie_of-same, b_same) refl

  pub t_of-same : t_of v ≡ t_of w
  unfolding cut_from
  t_of-same = rw (ie_of-same, t_same) refl

  pub cut_exponent_of-same : cut_exponent_of v ≡ cut_exponent_of w
  cut_exponent_of-same = ap (λ (x : ℕ). min x 52) e_of-same

  pub length_of-same : length_of v ≡ length_of w
  length_of-same = rw (length_is v, length_is w, cut_exponent_of-same, b_of-same, t_of-same, ie_of-same) refl

  raw-same : raw_base_at (cut_exponent_of v) (b_of v) (address_of v) ≡ raw_base_at (cut_exponent_of w) (b_of w) (address_of v)
  raw-same = rw (cut_exponent_of-same, b_of-same) refl

  pub base_of-same : base_of v ≡ raw_base_at (cut_exponent_of w) (b_of w) (address_of v) % 2 ^ 64
  unfolding base_of
  base_of-same = ap (λ (x : ℕ). x % 2 ^ 64) raw-same

  pub top_of-same : top_of v ≡ top_at (cut_exponent_of w) (raw_base_at (cut_exponent_of w) (b_of w) (address_of v)) (length_of w)
  unfolding top_of
  top_of-same = rw (length_of-same, raw-same, cut_exponent_of-same) refl

-- two words that agree modulo 2 ^ 91
module _ (v w : ℕ) (same : v % 2 ^ 91 ≡ w % 2 ^ 91) where
  middle : v / 2 ^ 64 % 2 ^ 27 ≡ w / 2 ^ 64 % 2 ^ 27
  middle = omega arith

  address-same : address_of v ≡ address_of w
  address-same = omega arith

  pub base_of-low : base_of v ≡ base_of w
  unfolding base_of
  base_of-low = base_of-same v w middle ∙ ap (λ (x : ℕ). raw_base_at (cut_exponent_of w) (b_of w) x % 2 ^ 64) address-same

  pub top_of-low : top_of v ≡ top_of w
  unfolding top_of
  top_of-low = top_of-same v w middle
      ∙ ap (λ (x : ℕ). top_at (cut_exponent_of w) (raw_base_at (cut_exponent_of w) (b_of w) x) (length_of w)) address-same

  pub length_of-low : length_of v ≡ length_of w
  length_of-low = length_of-same v w middle

  pub IsSound-low : IsSound w → IsSound v
  IsSound-low h = (
    ap (λ (x : ℕ). x + length_of v) base_of-low ∙ ap (λ (x : ℕ). base_of w + x) length_of-low ∙ h.0
        ∙ sym top_of-low,
    subst (λ (x : ℕ). x ≤ 2 ^ 64) (sym top_of-low) h.1,
  )

-- a word with another address
module _ (w a : ℕ) (fits : a < 2 ^ 64) where
  moved : with_address w a / 2 ^ 64 % 2 ^ 27 ≡ w / 2 ^ 64 % 2 ^ 27
  moved = omega arith

  address_of-with_address : address_of (with_address w a) ≡ a
  address_of-with_address = omega arith

  pub length_of-with_address : length_of (with_address w a) ≡ length_of w
  length_of-with_address = length_of-same (with_address w a) w moved

  pub base_of-with_address : base_of (with_address w a) ≡ raw_base_at (cut_exponent_of w) (b_of w) a % 2 ^ 64
  base_of-with_address = base_of-same (with_address w a) w moved
      ∙ ap (λ (x : ℕ). raw_base_at (cut_exponent_of w) (b_of w) x % 2 ^ 64) address_of-with_address

  pub top_of-with_address : top_of (with_address w a)
      ≡ top_at (cut_exponent_of w) (raw_base_at (cut_exponent_of w) (b_of w) a) (length_of w)
  top_of-with_address = top_of-same (with_address w a) w moved
      ∙ ap (λ (x : ℕ). top_at (cut_exponent_of w) (raw_base_at (cut_exponent_of w) (b_of w) x) (length_of w)) address_of-with_address

  -- an address that keeps the bounds keeps soundness
  pub IsSound-with_address : KeepsBounds w a → IsSound w → IsSound (with_address w a)
  IsSound-with_address k h = (
    ap (λ (x : ℕ). x + length_of (with_address w a)) k.0 ∙ ap (λ (x : ℕ). base_of w + x) length_of-with_address ∙ h.0 ∙ sym k.1,
    subst (λ (x : ℕ). x ≤ 2 ^ 64) (sym k.1) h.1,
  )
