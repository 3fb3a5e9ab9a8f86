-- Least rounding: a sound word contains a request exactly where it contains the rounded request.
use Rattle.std.proofs.Common.{◌≡◌, ℕ, ◌+◌, ◌-◌, ◌*◌, ◌/◌, ◌%◌, ◌^◌, ◌<◌, ◌≤◌, min, Bool, true, false, sym, ap, ◌∙◌, inl}
use Rattle.std.proofs.Common.{inr, arith, subst, mul-le-mul_right, le-div_iff_mul-le, mul_assoc, pow_pos}
use Rattle.std.proofs.lemmas.Bool.{cases_lt, cases_Bool}
use Rattle.cap_word.specs.Fields.{ie_of, e_of, b_of, t_of, address_of, b_field, t_field}
use Rattle.cap_bounds.specs.Bounds.{IsSound, IsInside, cut_exponent_of, span_at, raw_base_at, base_of, top_of}
use Rattle.cap_bounds.specs.Bounds.{length_of}
use Rattle.cap_bounds.specs.Rounding.{div_up, units_of, IsLeastExponent, rounded_exponent, rounded_base, rounded_top}
use Rattle.cap_bounds.proofs.{BoundedWords.{e_from, cut_from}, Decoded.{exponent-le, b_of-lt, length_is}}
use Rattle.cap_bounds.proofs.{LeastExponents.IsLeastExponent-rounded, Powers.{pow_split, grain_is}}
use Rattle.cap_bounds.proofs.{Residues.mul-mod-mul, Roundings.{grain_of, rounded_base-short, rounded_top-short}}
use Rattle.cap_bounds.proofs.Roundings.{rounded_base-long, rounded_top-long, rounded_base-le, rounded_top-ge}
use Rattle.cap_bounds.proofs.Units.{div_up-le}

-- without IE a word is shorter than 4096
length-short : (w : ℕ) → ie_of w ≡ false → length_of w < 4096
unfolding e_from
length-short w h =
    let e_is : e_of w ≡ 0 = ap (λ (x : Bool). e_from x (t_field w) (b_field w)) h in
    let exponent : cut_exponent_of w ≡ 0 = ap (λ (x : ℕ). min x 52) e_is in
    let length : length_of w ≡ span_at (b_of w) (t_of w) false * 1 =
    length_is w ∙ ap (λ (x : Bool). span_at (b_of w) (t_of w) x * 2 ^ cut_exponent_of w) h
    ∙ ap (λ (x : ℕ). span_at (b_of w) (t_of w) false * 2 ^ x) exponent in
    omega arith

-- with IE, B and the span are multiples of 8
b-aligned : (w : ℕ) → ie_of w ≡ true → b_of w % 8 ≡ 0
unfolding cut_from
b-aligned w h = let b_is : b_of w ≡ b_field w / 8 * 8 = ap (λ (x : Bool). cut_from x (b_field w)) h in omega arith

t-aligned : (w : ℕ) → ie_of w ≡ true → t_of w % 8 ≡ 0
unfolding cut_from
t-aligned w h = let t_is : t_of w ≡ t_field w / 8 * 8 = ap (λ (x : Bool). cut_from x (t_field w)) h in omega arith

eighths : (b t : ℕ) → b % 8 ≡ 0 → t % 8 ≡ 0 → b < 2 ^ 14 → span_at b t true ≡ span_at b t true / 8 * 8
eighths b t hb ht small = omega arith

eighths-lt : (b t : ℕ) → span_at b t true / 8 < 1024
eighths-lt b t = omega arith

-- how many grains the length of a word with IE is
grains_of : ℕ → ℕ
grains_of w = span_at (b_of w) (t_of w) true / 8

grains_of-lt : (w : ℕ) → grains_of w < 1024
unfolding grains_of
grains_of-lt w = eighths-lt (b_of w) (t_of w)

length-grains : (w : ℕ) → ie_of w ≡ true → length_of w ≡ grains_of w * 2 ^ (cut_exponent_of w + 3)
unfolding grains_of
length-grains w h =
    length_is w ∙ ap (λ (x : Bool). span_at (b_of w) (t_of w) x * 2 ^ cut_exponent_of w) h
    ∙ ap (λ (x : ℕ). x * 2 ^ cut_exponent_of w) (eighths (b_of w) (t_of w) (b-aligned w h) (t-aligned w h) (b_of-lt w))
    ∙ mul_assoc (span_at (b_of w) (t_of w) true / 8) 8 (2 ^ cut_exponent_of w)
    ∙ ap (λ (x : ℕ). span_at (b_of w) (t_of w) true / 8 * x) (sym (grain_is (cut_exponent_of w)))

-- with IE the base is a multiple of the grain
base-grains : (w : ℕ) → ie_of w ≡ true → (k : ℕ) × (base_of w ≡ k * 2 ^ (cut_exponent_of w + 3))
unfolding base_of raw_base_at
base-grains w h =
    let e = cut_exponent_of w in
    let b = b_of w in
    let turn = ((address_of w + 2 ^ 66) / 2 ^ (e + 11) + 1 - b / 2 ^ 11) / 8 in
    let whole : 2 ^ 64 ≡ 2 ^ (61 - e) * 2 ^ (e + 3) = pow_split 64 (61 - e) (e + 3) (omega (arith, exponent-le w)) in
    let b_is : b ≡ b / 8 * 8 = omega (arith, b-aligned w h) in
    let units : 2 ^ 14 * turn + b ≡ (2048 * turn + b / 8) * 8 = omega arith in
    let raw : (2 ^ 14 * turn + b) * 2 ^ e ≡ (2048 * turn + b / 8) * 2 ^ (e + 3) =
    ap (λ (x : ℕ). x * 2 ^ e) units ∙ mul_assoc (2048 * turn + b / 8) 8 (2 ^ e)
    ∙ ap (λ (x : ℕ). (2048 * turn + b / 8) * x) (sym (grain_is e)) in (
      (2048 * turn + b / 8) % 2 ^ (61 - e),
      ap (λ (x : ℕ). x % 2 ^ 64) raw ∙ ap (λ (x : ℕ). (2048 * turn + b / 8) * 2 ^ (e + 3) % x) whole
          ∙ mul-mod-mul (2048 * turn + b / 8) (2 ^ (e + 3)) (2 ^ (61 - e)) (pow_pos (61 - e)) (pow_pos (e + 3)),
    )

-- bounds in grains of 2 ^ (top_e + 3), less than 1024 of them, that contain a long request contain its rounding
module _ (b l start count top_e : ℕ) (long : 4096 ≤ l) (fits : l < 2 ^ 64) (few : count < 1024) (low : start * 2 ^ (top_e + 3) ≤ b)
    (high : b + l ≤ (start + count) * 2 ^ (top_e + 3)) where
  least : IsLeastExponent b l (rounded_exponent b l)
  least = IsLeastExponent-rounded b l long fits

  covers : units_of b l top_e < 1024
  covers =
      let from : start ≤ b / 2 ^ (top_e + 3) = (le-div_iff_mul-le {k = 2 ^ (top_e + 3)} {x = start} {y = b} (pow_pos (top_e + 3))).1 low in
      let to : div_up (b + l) (2 ^ (top_e + 3)) ≤ start + count = div_up-le (b + l) (2 ^ (top_e + 3)) (start + count)
      (pow_pos (top_e + 3)) high in
      omega arith

  finer : rounded_exponent b l ≤ top_e
  finer = elim (cases_lt top_e (rounded_exponent b l)) [
    | inl below ↦ absurd (omega (arith, least.least top_e below, covers))
    | inr p ↦ p
  ]

  grains : (n : ℕ) → n * 2 ^ (top_e + 3) ≡ n * 2 ^ (top_e - rounded_exponent b l) * grain_of b l
  grains n =
      let e = rounded_exponent b l in
      let p : 2 ^ (top_e + 3) ≡ 2 ^ (top_e - e) * 2 ^ (e + 3) = pow_split (top_e + 3) (top_e - e) (e + 3) (omega (arith, finer)) in
      ap (λ (x : ℕ). n * x) p ∙ sym (mul_assoc n (2 ^ (top_e - e)) (2 ^ (e + 3)))

  pub low-contained : start * 2 ^ (top_e + 3) ≤ rounded_base b l
  low-contained =
      let n = start * 2 ^ (top_e - rounded_exponent b l) in
      let p : n ≤ b / grain_of b l = (le-div_iff_mul-le {k = grain_of b l} {x = n} {y = b} (pow_pos (rounded_exponent b l + 3))).1
      (omega (arith, grains start)) in
      let q : n * grain_of b l ≤ b / grain_of b l * grain_of b l = mul-le-mul_right (grain_of b l) p in
      omega (arith, grains start, rounded_base-long b l long)

  pub high-contained : rounded_top b l ≤ (start + count) * 2 ^ (top_e + 3)
  high-contained =
      let n = (start + count) * 2 ^ (top_e - rounded_exponent b l) in
      let p : div_up (b + l) (grain_of b l) ≤ n = div_up-le (b + l) (grain_of b l) n (pow_pos (rounded_exponent b l + 3))
      (subst (λ (x : ℕ). b + l ≤ x) (grains (start + count)) high) in
      let q : div_up (b + l) (grain_of b l) * grain_of b l ≤ n * grain_of b l = mul-le-mul_right (grain_of b l) p in
      subst (λ (x : ℕ). rounded_top b l ≤ x) (sym (grains (start + count))) (omega (arith, rounded_top-long b l long))

inside-long : (w b l : ℕ) → 4096 ≤ l → l < 2 ^ 64 → ie_of w ≡ true → IsSound w → base_of w ≤ b → b + l ≤ top_of w
    → IsInside (rounded_base b l) (rounded_top b l) (base_of w) (top_of w)
inside-long w b l long fits ie sound low high =
    let v = 2 ^ (cut_exponent_of w + 3) in
    let k = base-grains w ie in
    let base_is : base_of w ≡ k.0 * v = k.1 in
    let length : length_of w ≡ grains_of w * v = length-grains w ie in
    let sum : (k.0 + grains_of w) * v ≡ k.0 * v + grains_of w * v = omega arith in
    let top_is : top_of w ≡ (k.0 + grains_of w) * v = omega (arith, sound.0) in
    let few : grains_of w < 1024 = grains_of-lt w in (
      omega (arith, low-contained b l k.0 (grains_of w) (cut_exponent_of w) long fits few (omega arith) (omega arith)),
      omega (arith, high-contained b l k.0 (grains_of w) (cut_exponent_of w) long fits few (omega arith) (omega arith)),
    )

-- a sound word that contains a request contains the rounded request
pub IsInside-rounded : (w b l : ℕ) → l < 2 ^ 64 → IsSound w → IsInside b (b + l) (base_of w) (top_of w)
    → IsInside (rounded_base b l) (rounded_top b l) (base_of w) (top_of w)
IsInside-rounded w b l fits sound h = elim (cases_lt l 4096) [
  | inl short ↦ (omega (arith, rounded_base-short b l short, h.0), omega (arith, rounded_top-short b l short, h.1))
  | inr long ↦ elim (cases_Bool (ie_of w)) [
    | inl with_exponent ↦ inside-long w b l long fits with_exponent sound h.0 h.1
    | inr without ↦ absurd (omega (arith, length-short w without, sound.0, h.0, h.1))
  ]
]

-- and the other way round, for any bounds
pub IsInside-requested : (b l base top : ℕ) → IsInside (rounded_base b l) (rounded_top b l) base top → IsInside b (b + l) base top
IsInside-requested b l base top h = (omega (arith, rounded_base-le b l, h.0), omega (arith, rounded_top-ge b l, h.1))

-- inside is reflexive and transitive
pub IsInside-refl : (base top : ℕ) → IsInside base top base top
IsInside-refl base top = (omega arith, omega arith)

pub IsInside-trans : (base top base' top' base'' top'' : ℕ) → IsInside base top base' top' → IsInside base' top' base'' top''
    → IsInside base top base'' top''
IsInside-trans base top base' top' base'' top'' p q = (omega (arith, p.0, q.0), omega (arith, p.1, q.1))
