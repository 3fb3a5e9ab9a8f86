-- The bounds of a rounded request.
use Rattle.std.proofs.Common.{◌≡◌, ℕ, ◌+◌, ◌-◌, ◌*◌, ◌/◌, ◌%◌, ◌^◌, ◌<◌, ◌≤◌, true, false, sym, ap, ◌∙◌, inl, inr, refl}
use Rattle.std.proofs.Common.{arith, mul-le-mul_right, mul-div_cancel, mod-eq_of_lt, div-one, pow_pos}
use Rattle.std.proofs.lemmas.Bool.{cases_lt, Decides.nat_tests}
use Rattle.cap_bounds.specs.Rounding.{div_up, IsExact, IsLeastExponent, rounded_ie, rounded_exponent, rounded_base}
use Rattle.cap_bounds.specs.Rounding.{rounded_top, rounded_b, rounded_t}
use Rattle.cap_bounds.proofs.LeastExponents.{IsLeastExponent-rounded, IsLeastExponent-unique, rounded_exponent-short}
use Rattle.cap_bounds.proofs.{LeastExponents.rounded_exponent-le, Powers.{pow_split, grain_is}, Units.div_up-ge}
use Rattle.cap_bounds.proofs.Units.{div_up-le, down-le, down-whole, whole-down, up-whole, whole-up, behind-whole}

pub rounded_base-short : (b l : ℕ) → l < 4096 → rounded_base b l ≡ b
unfolding rounded_base
rounded_base-short b l h = grind (arith, nat_tests)

pub rounded_top-short : (b l : ℕ) → l < 4096 → rounded_top b l ≡ b + l
unfolding rounded_top
rounded_top-short b l h = grind (arith, nat_tests)

pub rounded_ie-short : (l : ℕ) → l < 4096 → rounded_ie l ≡ false
rounded_ie-short l h = grind (arith, nat_tests)

pub rounded_ie-long : (l : ℕ) → 4096 ≤ l → rounded_ie l ≡ true
rounded_ie-long l h = grind (arith, nat_tests)

-- the unit of a long request: 2 ^ (e + 3)
abbrev pub grain_of : ℕ → ℕ → ℕ
grain_of b l = 2 ^ (rounded_exponent b l + 3)

pub rounded_base-long : (b l : ℕ) → 4096 ≤ l → rounded_base b l ≡ b / grain_of b l * grain_of b l
unfolding rounded_base
rounded_base-long b l h = grind (arith, nat_tests)

pub rounded_top-long : (b l : ℕ) → 4096 ≤ l → rounded_top b l ≡ div_up (b + l) (grain_of b l) * grain_of b l
unfolding rounded_top
rounded_top-long b l h = grind (arith, nat_tests)

-- with the least exponent by any name
module _ (b l e : ℕ) (long : 4096 ≤ l) (fits : l < 2 ^ 64) (least : IsLeastExponent b l e) where
  pub exponent_is : rounded_exponent b l ≡ e
  exponent_is = IsLeastExponent-unique b l (rounded_exponent b l) e (IsLeastExponent-rounded b l long fits) least

  pub rounded_base_is : rounded_base b l ≡ b / 2 ^ (e + 3) * 2 ^ (e + 3)
  rounded_base_is = rounded_base-long b l long ∙ ap (λ (x : ℕ). b / 2 ^ (x + 3) * 2 ^ (x + 3)) exponent_is

  pub rounded_top_is : rounded_top b l ≡ div_up (b + l) (2 ^ (e + 3)) * 2 ^ (e + 3)
  rounded_top_is = rounded_top-long b l long ∙ ap (λ (x : ℕ). div_up (b + l) (2 ^ (x + 3)) * 2 ^ (x + 3)) exponent_is

-- a multiple of a grain in units of 2 ^ e
pub in_units : (k e : ℕ) → k * 2 ^ (e + 3) / 2 ^ e ≡ 8 * k
in_units k e =
    ap (λ (x : ℕ). k * x / 2 ^ e) (grain_is e) ∙ ap (λ (x : ℕ). x / 2 ^ e) (let f : k * (8 * 2 ^ e) ≡ 8 * k * 2 ^ e = omega arith in f)
    ∙ mul-div_cancel (8 * k) (pow_pos e)

-- rounding takes neither end inwards
pub rounded_base-le : (b l : ℕ) → rounded_base b l ≤ b
rounded_base-le b l = elim (cases_lt l 4096) [
  | inl short ↦ omega (arith, rounded_base-short b l short)
  | inr long ↦ omega (arith, rounded_base-long b l long, down-le b (grain_of b l))
]

pub rounded_top-ge : (b l : ℕ) → b + l ≤ rounded_top b l
rounded_top-ge b l = elim (cases_lt l 4096) [
  | inl short ↦ omega (arith, rounded_top-short b l short)
  | inr long ↦ omega (arith, rounded_top-long b l long, div_up-ge (b + l) (grain_of b l) (pow_pos (rounded_exponent b l + 3)))
]

-- a top within a power of two from 2 ^ 55 on is rounded within it
pub rounded_top-le : (b l n : ℕ) → l < 2 ^ 64 → 55 ≤ n → b + l ≤ 2 ^ n → rounded_top b l ≤ 2 ^ n
rounded_top-le b l n fits big h = elim (cases_lt l 4096) [
  | inl short ↦ omega (arith, rounded_top-short b l short)
  | inr long ↦
      let e : rounded_exponent b l ≤ 52 = rounded_exponent-le b l fits in
      let whole : 2 ^ n ≡ 2 ^ (n - (rounded_exponent b l + 3)) * grain_of b l = pow_split n (n - (rounded_exponent b l + 3))
      (rounded_exponent b l + 3) (omega arith) in
      let units : div_up (b + l) (grain_of b l) ≤ 2 ^ (n - (rounded_exponent b l + 3)) = div_up-le (b + l) (grain_of b l)
      (2 ^ (n - (rounded_exponent b l + 3))) (pow_pos (rounded_exponent b l + 3)) (omega arith) in
      let top : div_up (b + l) (grain_of b l) * grain_of b l ≤ 2 ^ (n - (rounded_exponent b l + 3)) * grain_of b l = mul-le-mul_right
      (grain_of b l) units in
      omega (arith, rounded_top-long b l long)
]

-- what the code computes of a long request, from its ends in units
pub record IsLong (b l e lo hi : ℕ) : Type 0 where
  pub base_is : lo * 2 ^ (e + 3) % 2 ^ 64 ≡ rounded_base b l
  pub top_is : hi * 2 ^ (e + 3) % 2 ^ 128 ≡ rounded_top b l
  pub top_fits : hi * 2 ^ (e + 3) % 2 ^ 128 ≤ 2 ^ 65
  pub ie_is : true ≡ rounded_ie l
  pub e_is : e ≡ rounded_exponent b l
  pub b_is : 8 * lo % 2 ^ 14 ≡ rounded_b b l
  pub t_is : 8 * hi % 2 ^ 14 ≡ rounded_t b l

pub long_request : (b l e lo hi : ℕ) → 4096 ≤ l → b < 2 ^ 64 → l < 2 ^ 64 → IsLeastExponent b l e → lo ≡ b / 2 ^ (e + 3)
    → hi ≡ div_up (b + l) (2 ^ (e + 3)) → IsLong b l e lo hi
long_request b l e lo hi long b_fits l_fits least lo_is hi_is =
    let same = exponent_is b l e long l_fits least in
    let down : lo * 2 ^ (e + 3) ≡ rounded_base b l = ap (λ (x : ℕ). x * 2 ^ (e + 3)) lo_is ∙ sym (rounded_base_is b l e long l_fits least) in
    let up : hi * 2 ^ (e + 3) ≡ rounded_top b l = ap (λ (x : ℕ). x * 2 ^ (e + 3)) hi_is ∙ sym (rounded_top_is b l e long l_fits least) in
    let fits : rounded_top b l ≤ 2 ^ 65 = rounded_top-le b l 65 l_fits (omega arith) (omega arith) in
    let top : hi * 2 ^ (e + 3) % 2 ^ 128 ≡ rounded_top b l = mod-eq_of_lt (omega (arith, up, fits)) ∙ up in
    record {
      base_is = mod-eq_of_lt (omega (arith, down, rounded_base-le b l)) ∙ down;
      top_is = top;
      top_fits = omega (arith, top, fits);
      ie_is = sym (rounded_ie-long l long);
      e_is = sym same;
      b_is = rw (same, sym down, in_units lo e) refl;
      t_is = rw (same, sym up, in_units hi e) refl;
    }

-- a long request needs no rounding exactly where its base and its length are multiples of the unit
module _ (b l e : ℕ) (long : 4096 ≤ l) (fits : l < 2 ^ 64) (least : IsLeastExponent b l e) where
  pub whole-exact : b % 2 ^ (e + 3) ≡ 0 → l % 2 ^ (e + 3) ≡ 0 → IsExact b l
  whole-exact base length = (
    rounded_base_is b l e long fits least ∙ down-whole b (2 ^ (e + 3)) base,
    rounded_top_is b l e long fits least
        ∙ up-whole (b + l) (2 ^ (e + 3)) (pow_pos (e + 3)) (behind-whole b l (2 ^ (e + 3)) base ∙ length),
  )

  pub exact-whole : IsExact b l → (b % 2 ^ (e + 3) ≡ 0) × (l % 2 ^ (e + 3) ≡ 0)
  exact-whole exact =
      let base = whole-down b (2 ^ (e + 3)) (sym (rounded_base_is b l e long fits least) ∙ exact.0) in (
        base,
        sym (behind-whole b l (2 ^ (e + 3)) base)
            ∙ whole-up (b + l) (2 ^ (e + 3)) (sym (rounded_top_is b l e long fits least) ∙ exact.1),
      )

-- and of a short one
pub short_b : (b l : ℕ) → l < 4096 → b % 2 ^ 14 ≡ rounded_b b l
short_b b l h = rw (rounded_exponent-short b l h, rounded_base-short b l h, div-one b) refl

pub short_t : (b l : ℕ) → l < 4096 → (b + l) % 2 ^ 14 ≡ rounded_t b l
short_t b l h = rw (rounded_exponent-short b l h, rounded_top-short b l h, div-one (b + l)) refl
