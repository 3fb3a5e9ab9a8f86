-- A word with given bounds fields, and the word of a rounded request: it has exactly the rounded bounds.
use Rattle.std.proofs.Common.{◌≡◌, ℕ, ◌+◌, ◌*◌, ◌/◌, ◌%◌, ◌^◌, ◌<◌, Bool, true, false, ◌==◌, if◌then◌else◌, sym, ap}
use Rattle.std.proofs.Common.{refl, arith}
use Rattle.cap_word.specs.Fields.{ie_of, e_of, b_of, t_of, address_of, b_field, t_field}
use Rattle.cap_bounds.specs.Rounding.{bounded_word}

-- what the fields of a word with bounds need
pub record AreFields (ie : Bool) (e b t : ℕ) : Type 0 where
  pub e_fits : e < 2 ^ 6
  pub b_fits : b < 2 ^ 14
  pub t_fits : t < 2 ^ 14
  pub no_exponent : ie ≡ false → e ≡ 0
  pub b_aligned : ie ≡ true → b % 8 ≡ 0
  pub t_aligned : ie ≡ true → t % 8 ≡ 0

pub address_of-bounded_word : (w : ℕ) (ie : Bool) (e b t a : ℕ) → a < 2 ^ 64 → AreFields ie e b t
    → address_of (bounded_word w ie e b t a) ≡ a
address_of-bounded_word w true e b t a h f = omega arith
address_of-bounded_word w false e b t a h f = omega arith

t_field-bounded_word : (w : ℕ) (ie : Bool) (e b t a : ℕ) → a < 2 ^ 64 → AreFields ie e b t
    → t_field (bounded_word w ie e b t a) ≡ t % 2 ^ 12 + e / 8
t_field-bounded_word w true e b t a h f = omega (arith, f.e_fits, f.b_fits, f.b_aligned refl, f.t_aligned refl)
t_field-bounded_word w false e b t a h f = omega (arith, f.b_fits, f.no_exponent refl)

b_field-bounded_word : (w : ℕ) (ie : Bool) (e b t a : ℕ) → a < 2 ^ 64 → AreFields ie e b t → b_field (bounded_word w ie e b t a) ≡ b + e % 8
b_field-bounded_word w true e b t a h f = omega (arith, f.e_fits, f.b_fits, f.b_aligned refl, f.t_aligned refl)
b_field-bounded_word w false e b t a h f = omega (arith, f.b_fits, f.no_exponent refl)

pub ie_of-bounded_word : (w : ℕ) (ie : Bool) (e b t a : ℕ) → a < 2 ^ 64 → AreFields ie e b t → ie_of (bounded_word w ie e b t a) ≡ ie
ie_of-bounded_word w true e b t a h f =
    let bit : bounded_word w true e b t a / 2 ^ 90 % 2 ≡ 1 = omega (arith, f.e_fits, f.b_fits, f.b_aligned refl, f.t_aligned refl) in
    ap (λ (x : ℕ). x == 1) bit
ie_of-bounded_word w false e b t a h f =
    let bit : bounded_word w false e b t a / 2 ^ 90 % 2 ≡ 0 = omega (arith, f.no_exponent refl, f.b_fits) in
    ap (λ (x : ℕ). x == 1) bit

-- E, B and the low bits of T, from the fields and IE
unfoldable pub e_from : Bool → ℕ → ℕ → ℕ
e_from ie t b = if ie then t % 8 * 8 + b % 8 else 0

unfoldable pub cut_from : Bool → ℕ → ℕ
cut_from ie x = if ie then x / 8 * 8 else x

e_at : (ie : Bool) (e b t : ℕ) → AreFields ie e b t → e_from ie (t % 2 ^ 12 + e / 8) (b + e % 8) ≡ e
unfolding e_from
e_at true e b t f = omega (arith, f.e_fits, f.b_aligned refl, f.t_aligned refl)
e_at false e b t f = sym (f.no_exponent refl)

b_at : (ie : Bool) (e b t : ℕ) → AreFields ie e b t → cut_from ie (b + e % 8) ≡ b
unfolding cut_from
b_at true e b t f = omega (arith, f.b_aligned refl)
b_at false e b t f = omega (arith, f.no_exponent refl)

t_at : (ie : Bool) (e b t : ℕ) → AreFields ie e b t → cut_from ie (t % 2 ^ 12 + e / 8) ≡ t % 2 ^ 12
unfolding cut_from
t_at true e b t f = omega (arith, f.e_fits, f.t_aligned refl)
t_at false e b t f = omega (arith, f.no_exponent refl)

module _ (w : ℕ) (ie : Bool) (e b t a : ℕ) (fits : a < 2 ^ 64) (f : AreFields ie e b t) where
  pub e_of-bounded_word : e_of (bounded_word w ie e b t a) ≡ e
  unfolding e_from
  e_of-bounded_word =
      rw (ie_of-bounded_word w ie e b t a fits f, t_field-bounded_word w ie e b t a fits f, b_field-bounded_word w ie e b t a fits f)
      (e_at ie e b t f)

  pub b_of-bounded_word : b_of (bounded_word w ie e b t a) ≡ b
  unfolding cut_from
  b_of-bounded_word = rw (ie_of-bounded_word w ie e b t a fits f, b_field-bounded_word w ie e b t a fits f) (b_at ie e b t f)

  pub t_of-bounded_word : t_of (bounded_word w ie e b t a) ≡ t % 2 ^ 12
  unfolding cut_from
  t_of-bounded_word = rw (ie_of-bounded_word w ie e b t a fits f, t_field-bounded_word w ie e b t a fits f) (t_at ie e b t f)

-- the bits above those of the bounds are kept
pub above-bounded_word : (w : ℕ) (ie : Bool) (e b t a : ℕ) → a < 2 ^ 64 → AreFields ie e b t
    → bounded_word w ie e b t a / 2 ^ 91 ≡ w / 2 ^ 91
above-bounded_word w true e b t a h f = omega (arith, f.e_fits, f.b_fits, f.b_aligned refl, f.t_aligned refl)
above-bounded_word w false e b t a h f = omega (arith, f.no_exponent refl, f.b_fits)
