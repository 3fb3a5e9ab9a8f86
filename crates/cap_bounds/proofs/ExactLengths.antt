-- Which lengths need no rounding, and at which bases.
use Rattle.std.proofs.Common.{◌≡◌, ℕ, ◌+◌, ◌-◌, ◌*◌, ◌/◌, ◌%◌, ◌^◌, ◌<◌, ◌≤◌, sym, ap, ◌∙◌, inl, inr, arith, subst}
use Rattle.std.proofs.Common.{mul-le-mul_right, le_of_mul-le-mul_right, mul_assoc, mul-div_cancel, mul-le-mul_left}
use Rattle.std.proofs.{Common.{zero-add, pow_pos}, Math.Nat.{mul-mod_left, div-add-mod, mod-one, zero-div}}
use Rattle.std.proofs.lemmas.{Bool.{cases_lt, Decides.nat_tests}, Nat.Bits.ones_shl}
use Rattle.cap_bounds.specs.Rounding.{div_up, units_of, IsLeastExponent, IsExact, alignment_of, rounded_exponent}
use Rattle.cap_bounds.specs.Rounding.{rounded_top}
use Rattle.cap_bounds.proofs.{LeastExponents.{IsLeastExponent-rounded, rounded_exponent-le}, Powers.{pow_split, pow_le}}
use Rattle.cap_bounds.proofs.Roundings.{grain_of, rounded_base-short, rounded_top-short, rounded_base-long}
use Rattle.cap_bounds.proofs.Roundings.{rounded_top-long, rounded_top-ge, rounded_top-le}
use Rattle.cap_bounds.proofs.Units.{div_up-ge, div_up-le, down-le-up, covered-ge}

pub alignment-short : (n : ℕ) → n < 4096 → alignment_of n ≡ 1
unfolding alignment_of
alignment-short n h = grind (arith, nat_tests)

pub alignment-long : (n : ℕ) → 4096 ≤ n → alignment_of n ≡ grain_of 0 n
unfolding alignment_of
alignment-long n h = grind (arith, nat_tests)

-- a multiple of v is its own rounding to v
down-multiple : (k v : ℕ) → 0 < v → k * v / v * v ≡ k * v
down-multiple k v pos = ap (λ (x : ℕ). x * v) (mul-div_cancel k pos)

up-multiple : (k v : ℕ) → 0 < v → div_up (k * v) v ≡ k
up-multiple k v pos =
    let below : div_up (k * v) v ≤ k = div_up-le (k * v) v k pos (omega arith) in
    let above : k ≤ div_up (k * v) v = le_of_mul-le-mul_right {m = k} {n = div_up (k * v) v} {k = v} (div_up-ge (k * v) v pos) pos in
    omega arith

-- a multiple of 2 ^ (d + 3) is one of 2 ^ (e + 3), for e up to d
finer-multiple : (k d e : ℕ) → e ≤ d → k * 2 ^ (d + 3) ≡ k * 2 ^ (d - e) * 2 ^ (e + 3)
finer-multiple k d e h = ap (λ (x : ℕ). k * x) (pow_split (d + 3) (d - e) (e + 3) (omega arith))
    ∙ sym (mul_assoc k (2 ^ (d - e)) (2 ^ (e + 3)))

-- the start and the length of a request of less than 1024 grains: it is exact
exact-grains : (start count d : ℕ) → d ≤ 52 → count < 1024 → 4096 ≤ count * 2 ^ (d + 3) → count * 2 ^ (d + 3) < 2 ^ 64
    → IsExact (start * 2 ^ (d + 3)) (count * 2 ^ (d + 3))
exact-grains start count d within few long fits =
    let v = 2 ^ (d + 3) in
    let b = start * v in
    let l = count * v in
    let e = rounded_exponent b l in
    let least = IsLeastExponent-rounded b l long fits in
    let pos : 0 < v = pow_pos (d + 3) in
    let sum : b + l ≡ (start + count) * v = omega arith in
    let low : b / v ≡ start = mul-div_cancel start pos in
    let high : div_up (b + l) v ≡ start + count = ap (λ (x : ℕ). div_up x v) sum ∙ up-multiple (start + count) v pos in
    let covers : units_of b l d < 1024 = omega arith in
    let finer : e ≤ d = elim (cases_lt d e) [ inl below ↦ absurd (omega (arith, least.least d below)) | inr p ↦ p ] in
    let g : 0 < 2 ^ (e + 3) = pow_pos (e + 3) in
    let b_is : b ≡ start * 2 ^ (d - e) * 2 ^ (e + 3) = finer-multiple start d e finer in
    let t_is : b + l ≡ (start + count) * 2 ^ (d - e) * 2 ^ (e + 3) = sum ∙ finer-multiple (start + count) d e finer in (
      rounded_base-long b l long ∙ ap (λ (x : ℕ). x / 2 ^ (e + 3) * 2 ^ (e + 3)) b_is
          ∙ down-multiple (start * 2 ^ (d - e)) (2 ^ (e + 3)) g ∙ sym b_is,
      rounded_top-long b l long ∙ ap (λ (x : ℕ). div_up x (2 ^ (e + 3)) * 2 ^ (e + 3)) t_is
          ∙ ap (λ (x : ℕ). x * 2 ^ (e + 3)) (up-multiple ((start + count) * 2 ^ (d - e)) (2 ^ (e + 3)) g) ∙ sym t_is,
    )

-- a long length n, its grains at base 0
module _ (n : ℕ) (long : 4096 ≤ n) (fits : n < 2 ^ 64) where
  zero-least : IsLeastExponent 0 n (rounded_exponent 0 n)
  zero-least = IsLeastExponent-rounded 0 n long fits

  pub top-grains : rounded_top 0 n ≡ div_up (0 + n) (grain_of 0 n) * grain_of 0 n
  top-grains = rounded_top-long 0 n long

  count-lt : div_up (0 + n) (grain_of 0 n) < 1024
  count-lt = omega (arith, zero-least.fits, zero-div (grain_of 0 n))

  exact-long : rounded_top 0 n < 2 ^ 64 → (b : ℕ) → b % grain_of 0 n ≡ 0 → IsExact b (rounded_top 0 n)
  exact-long below b whole =
      let v = grain_of 0 n in
      let b_is : b ≡ b / v * v = omega (arith, div-add-mod b v) in
      let k = div_up (0 + n) v in
      let above : 4096 ≤ k * v = omega (arith, rounded_top-ge 0 n, top-grains) in
      subst (λ (x : ℕ). IsExact b x) (sym top-grains)
      (subst (λ (x : ℕ). IsExact x (k * v)) (sym b_is)
      (exact-grains (b / v) k (rounded_exponent 0 n) zero-least.within count-lt above (omega (arith, top-grains))))

  -- a length from n on that is exact is a multiple of the grain, and so is its base
  module _ (b l : ℕ) (from : n ≤ l) (l_fits : l < 2 ^ 64) (exact : IsExact b l) where
    l-least : IsLeastExponent b l (rounded_exponent b l)
    l-least = IsLeastExponent-rounded b l (omega arith) l_fits

    coarser : rounded_exponent 0 n ≤ rounded_exponent b l
    coarser = elim (cases_lt (rounded_exponent b l) (rounded_exponent 0 n)) [
      | inl below ↦
          let v = grain_of b l in
          let units : l ≤ (div_up (b + l) v - b / v) * v = covered-ge b l v (pow_pos (rounded_exponent b l + 3)) in
          let up : div_up (0 + n) v ≤ div_up (b + l) v - b / v = div_up-le (0 + n) v (div_up (b + l) v - b / v)
          (pow_pos (rounded_exponent b l + 3)) (omega arith) in
          absurd (omega (arith, zero-least.least (rounded_exponent b l) below, l-least.fits))
      | inr p ↦ p
    ]

    base-multiple : b % grain_of 0 n ≡ 0
    base-multiple =
        let v = grain_of b l in
        let b_is : b ≡ b / v * v = sym exact.0 ∙ rounded_base-long b l (omega arith) in
        ap (λ (x : ℕ). x % grain_of 0 n) (b_is ∙ finer-multiple (b / v) (rounded_exponent b l) (rounded_exponent 0 n) coarser)
        ∙ mul-mod_left (b / v * 2 ^ (rounded_exponent b l - rounded_exponent 0 n)) (grain_of 0 n)

    length-at-least : rounded_top 0 n ≤ l
    length-at-least =
        let v = grain_of b l in
        let b_is : b ≡ b / v * v = sym exact.0 ∙ rounded_base-long b l (omega arith) in
        let t_is : b + l ≡ div_up (b + l) v * v = sym exact.1 ∙ rounded_top-long b l (omega arith) in
        let order : b / v ≤ div_up (b + l) v = down-le-up b l v (pow_pos (rounded_exponent b l + 3)) in
        let m = div_up (b + l) v - b / v in
        let split : (b / v + m) * v
        ≡ div_up (b + l) v * v = ap (λ (x : ℕ). x * v) (let f : b / v + m ≡ div_up (b + l) v = omega arith in f) in
        let l_is : l ≡ m * v = omega arith in
        let fine : m * v ≡ m * 2 ^ (rounded_exponent b l - rounded_exponent 0 n) * grain_of 0 n = finer-multiple m (rounded_exponent b l)
        (rounded_exponent 0 n) coarser in
        let count = m * 2 ^ (rounded_exponent b l - rounded_exponent 0 n) in
        let up : div_up (0 + n) (grain_of 0 n) ≤ count = div_up-le (0 + n) (grain_of 0 n) count (pow_pos (rounded_exponent 0 n + 3))
        (omega arith) in
        let whole : div_up (0 + n) (grain_of 0 n) * grain_of 0 n ≤ count * grain_of 0 n = mul-le-mul_right (grain_of 0 n) up in
        omega (arith, top-grains)

  past-long : rounded_top 0 n ≡ 2 ^ 64 → grain_of 0 n ≡ 2 ^ 55
  past-long full = elim (cases_lt (rounded_exponent 0 n) 52) [
    | inl below ↦
        let v : grain_of 0 n ≤ 2 ^ 54 = pow_le (rounded_exponent 0 n + 3) 54 (omega arith) in
        let p : div_up (0 + n) (grain_of 0 n) * grain_of 0 n ≤ div_up (0 + n) (grain_of 0 n) * 2 ^ 54 = mul-le-mul_left
        (div_up (0 + n) (grain_of 0 n)) v in
        absurd (omega (arith, top-grains, count-lt))
    | inr at ↦ ap (λ (x : ℕ). 2 ^ (x + 3)) (let e : rounded_exponent 0 n ≡ 52 = omega (arith, zero-least.within) in e)
  ]

exact-short : (b n : ℕ) → n < 4096 → IsExact b n
exact-short b n h = (rounded_base-short b n h, rounded_top-short b n h)

-- the rounded length is at most 2 ^ 64
pub rounded_length-le : (n : ℕ) → n < 2 ^ 64 → rounded_top 0 n ≤ 2 ^ 64
rounded_length-le n fits = rounded_top-le 0 n 64 fits (omega arith) (omega arith)

pub rounded_length-ge : (n : ℕ) → n ≤ rounded_top 0 n
rounded_length-ge n = omega (arith, rounded_top-ge 0 n)

-- below 2 ^ 64 it is exact at the multiples of the alignment
pub exact-at-aligned : (n : ℕ) → n < 2 ^ 64 → rounded_top 0 n < 2 ^ 64 → (b : ℕ) → b % alignment_of n ≡ 0 → IsExact b (rounded_top 0 n)
exact-at-aligned n fits below b whole = elim (cases_lt n 4096) [
  | inl short ↦ subst (λ (x : ℕ). IsExact b x) (sym (rounded_top-short 0 n short ∙ zero-add n)) (exact-short b n short)
  | inr long ↦ exact-long n long fits below b (subst (λ (x : ℕ). b % x ≡ 0) (alignment-long n long) whole)
]

-- and at no other base
pub aligned-from_exact : (n : ℕ) → n < 2 ^ 64 → (b l : ℕ) → n ≤ l → l < 2 ^ 64 → IsExact b l → b % alignment_of n ≡ 0
aligned-from_exact n fits b l from l_fits exact = elim (cases_lt n 4096) [
  | inl short ↦ ap (λ (x : ℕ). b % x) (alignment-short n short) ∙ mod-one b
  | inr long ↦ subst (λ (x : ℕ). b % x ≡ 0) (sym (alignment-long n long)) (base-multiple n long fits b l from l_fits exact)
]

-- no length from n to below it is exact at any base
pub rounded_length-least : (n : ℕ) → n < 2 ^ 64 → (l b : ℕ) → n ≤ l → l < rounded_top 0 n → IsExact b l → ⊥
rounded_length-least n fits l b from below exact = elim (cases_lt n 4096) [
  | inl short ↦ omega (arith, rounded_top-short 0 n short)
  | inr long ↦ omega (arith, length-at-least n long fits b l from (omega (arith, rounded_length-le n fits)) exact)
]

-- where it is 2 ^ 64, the alignment is 2 ^ 55
pub alignment-past : (n : ℕ) → n < 2 ^ 64 → rounded_top 0 n ≡ 2 ^ 64 → alignment_of n ≡ 2 ^ 55
alignment-past n fits full = elim (cases_lt n 4096) [
  | inl short ↦ absurd (omega (arith, rounded_top-short 0 n short))
  | inr long ↦ alignment-long n long ∙ past-long n long fits full
]

-- the alignment is a power of two, at most 2 ^ 55
pub alignment-power : (n : ℕ) → n < 2 ^ 64 → (k : ℕ) × (k ≤ 55) × (alignment_of n ≡ 2 ^ k)
alignment-power n fits = elim (cases_lt n 4096) [
  | inl short ↦ (0, omega arith, alignment-short n short)
  | inr long ↦ (rounded_exponent 0 n + 3, omega (arith, rounded_exponent-le 0 n fits), alignment-long n long)
]

-- the alignment by the mask
pub alignment-from_mask : (mask g : ℕ) → mask + g ≡ 2 ^ 64 → 2 ^ 64 - mask ≡ g
alignment-from_mask mask g h = omega arith

-- what the code computes: all ones, shifted
pub mask_shifted : (e : ℕ) → e ≤ 52 → (2 ^ 64 - 1) * 2 ^ (e + 3) % 2 ^ 64 + 2 ^ (e + 3) ≡ 2 ^ 64
mask_shifted e h = omega (arith, ones_shl 64 (e + 3) (omega arith), pow_le (e + 3) 64 (omega arith))
