-- The word of a rounded request has exactly the rounded bounds, and is sound.
use Rattle.std.proofs.Common.{◌≡◌, ◌+◌, ◌-◌, ◌*◌, ◌/◌, ◌%◌, ◌^◌, ◌<◌, ◌≤◌, ◌∙◌, ℕ, zero, suc, min, Bool, true, false}
use Rattle.std.proofs.Common.{sym, ap, inl, inr, arith, subst, mul-le-mul_right, lt_of_mul-lt-mul_right, pow_pos}
use Rattle.std.proofs.{Math.Nat.min-eq_left, lemmas.Bool.cases_lt}
use Rattle.cap_word.specs.Fields.{ie_of, b_of, t_of, address_of}
use Rattle.cap_bounds.specs.Bounds.{window_start_at, IsResidue, IsSound, cut_exponent_of, span_at, raw_base_at, top_at}
use Rattle.cap_bounds.specs.Bounds.{base_of, top_of, length_of}
use Rattle.cap_bounds.specs.Rounding.{div_up, units_of, IsLeastExponent, HasRounding, bounded_word, rounded_word}
use Rattle.cap_bounds.specs.Rounding.{rounded_ie, rounded_exponent, rounded_base, rounded_top, rounded_b, rounded_t}
use Rattle.cap_bounds.proofs.BoundedWords.{AreFields, address_of-bounded_word, ie_of-bounded_word, e_of-bounded_word}
use Rattle.cap_bounds.proofs.BoundedWords.{b_of-bounded_word, t_of-bounded_word, above-bounded_word}
use Rattle.cap_bounds.proofs.Decoded.{window_start_at-le, window_start_at-gt, raw_base_at-residue, top_at-corrected}
use Rattle.cap_bounds.proofs.Decoded.{top_at-uncorrected, decoded}
use Rattle.cap_bounds.proofs.LeastExponents.{IsLeastExponent-rounded, rounded_exponent-short, rounded_exponent-le}
use Rattle.cap_bounds.proofs.{Powers.{pow_split, grain_is}, Residues.{IsResidue-unique, mul-mod-mul}}
use Rattle.cap_bounds.proofs.Roundings.{grain_of, rounded_base-short, rounded_top-short, rounded_ie-short}
use Rattle.cap_bounds.proofs.Roundings.{rounded_ie-long, rounded_base-long, rounded_top-long, rounded_base-le}
use Rattle.cap_bounds.proofs.Roundings.{rounded_top-ge, rounded_top-le, in_units, short_b, short_t}
use Rattle.cap_bounds.proofs.{Units.{covered-ge, covered-lt, many, down-le, down-gt, down-le-up}, Windows.eighth_of}

-- a long request covers 512 units or more at its least exponent
pub units-ge : (b l e : ℕ) → 4096 ≤ l → IsLeastExponent b l e → 512 ≤ units_of b l e
units-ge b l zero h least = many b l 8 (omega arith) 512 (omega arith)
units-ge b l (suc e) h least =
    let half : 2 ^ (suc e + 3) ≡ 2 * 2 ^ (e + 3) = pow_split (suc e + 3) 1 (e + 3) (omega arith) in
    let before : 1024 ≤ units_of b l e = least.least e (omega arith) in
    let big : 1024 * 2 ^ (e + 3) ≤ units_of b l e * 2 ^ (e + 3) = mul-le-mul_right (2 ^ (e + 3)) before in
    let length : units_of b l e * 2 ^ (e + 3) < l + 2 * 2 ^ (e + 3) = covered-lt b l (2 ^ (e + 3)) (pow_pos (e + 3)) in
    let now : l ≤ units_of b l (suc e) * 2 ^ (suc e + 3) = covered-ge b l (2 ^ (suc e + 3)) (pow_pos (suc e + 3)) in
    let more : 511 * 2 ^ (suc e + 3) < units_of b l (suc e) * 2 ^ (suc e + 3) = omega (arith, pow_pos (e + 3)) in
    lt_of_mul-lt-mul_right (2 ^ (suc e + 3)) {m = 511} {n = units_of b l (suc e)} more

-- the raw base is the number of the window that is congruent to B units
raw_base_at_is : (e b a y : ℕ) → e ≤ 52 → b < 2 ^ 14 → IsResidue (window_start_at e b a) (2 ^ (e + 14)) (b * 2 ^ e) y
    → raw_base_at e b a ≡ y
raw_base_at_is e b a y he hb h = IsResidue-unique (window_start_at e b a) (2 ^ (e + 14)) (b * 2 ^ e) (raw_base_at e b a) y
    (raw_base_at-residue e b a he hb) h

-- at exponent 0 a base is its own raw base
raw_base_at-short : (a : ℕ) → raw_base_at 0 (a % 2 ^ 14) a ≡ a + 2 ^ 66
raw_base_at-short a =
    raw_base_at_is 0 (a % 2 ^ 14) a (a + 2 ^ 66) (omega arith) (omega arith)
    (record {
      from = window_start_at-le 0 (a % 2 ^ 14) a (omega arith) (omega arith);
      below = window_start_at-gt 0 (a % 2 ^ 14) a (omega arith)
          (omega arith);
      congruent = omega arith;
    })

-- a multiple of a grain is the raw base of the addresses of that grain
module _ (e k a : ℕ) (he : e ≤ 52) (low : k * 2 ^ (e + 3) ≤ a) (high : a < k * 2 ^ (e + 3) + 2 ^ (e + 3)) where
  shifted : k * 2 ^ (e + 3) + 2 ^ 66 ≡ (k + 2048 * 2 ^ (52 - e)) * 2 ^ (e + 3)
  shifted =
      let p : 2 ^ 66 ≡ 2 ^ (63 - e) * 2 ^ (e + 3) = pow_split 66 (63 - e) (e + 3) (omega arith) in
      let q : 2 ^ (63 - e) ≡ 2048 * 2 ^ (52 - e) = pow_split (63 - e) 11 (52 - e) (omega arith) in
      let r : 2 ^ (63 - e) * 2 ^ (e + 3) ≡ 2048 * 2 ^ (52 - e) * 2 ^ (e + 3) = ap (λ (x : ℕ). x * 2 ^ (e + 3)) q in
      omega arith

  from-grain : window_start_at e (8 * k % 2 ^ 14) a ≤ k * 2 ^ (e + 3) + 2 ^ 66
  from-grain =
      let b = 8 * k % 2 ^ 14 in
      let n = eighth_of b ((a + 2 ^ 66) / 2 ^ (e + 11)) in
      let eighth : 2 ^ (e + 11) ≡ 256 * 2 ^ (e + 3) = pow_split (e + 11) 8 (e + 3) (omega arith) in
      let whole : n * 2 ^ (e + 11) ≡ 256 * n * 2 ^ (e + 3) = ap (λ (x : ℕ). n * x) eighth
      ∙ (let f : n * (256 * 2 ^ (e + 3)) ≡ 256 * n * 2 ^ (e + 3) = omega arith in f) in
      let below : 256 * n * 2 ^ (e + 3) < suc (k + 2048 * 2 ^ (52 - e)) * 2 ^ (e + 3) = omega
      (arith, shifted, window_start_at-le e b a he (omega arith)) in
      let steps : 256 * n < suc (k + 2048 * 2 ^ (52 - e)) = lt_of_mul-lt-mul_right
      (2 ^ (e + 3)) {m = 256 * n} {n = suc (k + 2048 * 2 ^ (52 - e))} below in
      let up : 256 * n * 2 ^ (e + 3) ≤ (k + 2048 * 2 ^ (52 - e)) * 2 ^ (e + 3) = mul-le-mul_right (2 ^ (e + 3))
      (let f : 256 * n ≤ k + 2048 * 2 ^ (52 - e) = omega arith in f) in
      omega (arith, shifted)

  congruent-grain : (k * 2 ^ (e + 3) + 2 ^ 66) % 2 ^ (e + 14) ≡ 8 * k % 2 ^ 14 * 2 ^ e % 2 ^ (e + 14)
  congruent-grain =
      let size : 2 ^ (e + 14) ≡ 2048 * 2 ^ (e + 3) = pow_split (e + 14) 11 (e + 3) (omega arith) in
      let units : 8 * k % 2 ^ 14 * 2 ^ e ≡ k % 2048 * 2 ^ (e + 3) =
      ap (λ (x : ℕ). x * 2 ^ e) (let f : 8 * k % 2 ^ 14 ≡ k % 2048 * 8 = omega arith in f)
      ∙ (let g : k % 2048 * 8 * 2 ^ e ≡ k % 2048 * (8 * 2 ^ e) = omega arith in g) ∙ ap (λ (x : ℕ). k % 2048 * x) (sym (grain_is e)) in
      let same : (k + 2048 * 2 ^ (52 - e)) % 2048 ≡ k % 2048 % 2048 = omega arith in
      ap (λ (x : ℕ). x % 2 ^ (e + 14)) shifted ∙ ap (λ (x : ℕ). (k + 2048 * 2 ^ (52 - e)) * 2 ^ (e + 3) % x) size
      ∙ mul-mod-mul (k + 2048 * 2 ^ (52 - e)) (2 ^ (e + 3)) 2048 (omega arith) (pow_pos (e + 3)) ∙ ap (λ (x : ℕ). x * 2 ^ (e + 3)) same
      ∙ sym (mul-mod-mul (k % 2048) (2 ^ (e + 3)) 2048 (omega arith) (pow_pos (e + 3)))
      ∙ ap (λ (x : ℕ). k % 2048 * 2 ^ (e + 3) % x) (sym size) ∙ ap (λ (x : ℕ). x % 2 ^ (e + 14)) (sym units)

  raw_base_at-grain : raw_base_at e (8 * k % 2 ^ 14) a ≡ k * 2 ^ (e + 3) + 2 ^ 66
  raw_base_at-grain =
      raw_base_at_is e (8 * k % 2 ^ 14) a (k * 2 ^ (e + 3) + 2 ^ 66) he (omega arith)
      (record {
        from = from-grain;
        below = omega
            (arith, window_start_at-gt e (8 * k % 2 ^ 14) a he (omega arith));
        congruent = congruent-grain;
      })

-- the bounds and the length of a word
pub record HasBounds (w base length top : ℕ) : Type 0 where
  pub base_is : base_of w ≡ base
  pub length_is : length_of w ≡ length
  pub top_is : top_of w ≡ top

-- a word of these fields has the bounds that its raw base and its span give
module _ (w : ℕ) (ie : Bool) (e b t a base length top : ℕ) (a_fits : a < 2 ^ 64) (f : AreFields ie e b t) (he : e ≤ 52)
    (raw_is : raw_base_at e b a ≡ base + 2 ^ 66) (length_is : span_at b (t % 2 ^ 12) ie * 2 ^ e ≡ length) (sum : base + length ≡ top)
    (fits : base < 2 ^ 64) (within : top ≤ 2 ^ 64) where
  top_whole : top_at e (base + 2 ^ 66) length ≡ top
  top_whole = elim (cases_lt 50 e) [
    | inl far ↦ top_at-uncorrected e (base + 2 ^ 66) length far ∙ (let r : (base + 2 ^ 66 + length) % 2 ^ 65 ≡ top = omega arith in r)
    | inr near ↦ top_at-corrected e (base + 2 ^ 66) length near ∙ (let r : (base + 2 ^ 66) % 2 ^ 64 + length ≡ top = omega arith in r)
  ]

  pub HasBounds-bounded_word : HasBounds (bounded_word w ie e b t a) base length top
  HasBounds-bounded_word =
      let v = bounded_word w ie e b t a in
      let e_is : e ≡ cut_exponent_of v = sym (ap (λ (x : ℕ). min x 52) (e_of-bounded_word w ie e b t a a_fits f) ∙ min-eq_left he) in
      let b_is : b ≡ b_of v = sym (b_of-bounded_word w ie e b t a a_fits f) in
      let t_is : t % 2 ^ 12 ≡ t_of v = sym (t_of-bounded_word w ie e b t a a_fits f) in
      let ie_is : ie ≡ ie_of v = sym (ie_of-bounded_word w ie e b t a a_fits f) in
      let a_is : a ≡ address_of v = sym (address_of-bounded_word w ie e b t a a_fits f) in
      let d_is : span_at b (t % 2 ^ 12) ie ≡ span_at (b_of v) (t_of v) (ie_of v) =
      ap (λ (x : ℕ). span_at x (t % 2 ^ 12) ie) b_is ∙ ap (λ (x : ℕ). span_at (b_of v) x ie) t_is
      ∙ ap (λ (x : Bool). span_at (b_of v) (t_of v) x) ie_is in
      let is = decoded v e b (span_at b (t % 2 ^ 12) ie) a e_is b_is d_is a_is in
      record {
        base_is = sym is.0 ∙ ap (λ (x : ℕ). x % 2 ^ 64) raw_is ∙ (let r : (base + 2 ^ 66) % 2 ^ 64 ≡ base = omega arith in r);
        length_is = sym is.1 ∙ length_is;
        top_is = sym is.2 ∙ ap (λ (x : ℕ). top_at e x (span_at b (t % 2 ^ 12) ie * 2 ^ e)) raw_is
            ∙ ap (λ (x : ℕ). top_at e (base + 2 ^ 66) x) length_is ∙ top_whole;
      }

-- B and T of a long request
pub rounded_b-long : (b l : ℕ) → 4096 ≤ l → rounded_b b l ≡ 8 * (b / grain_of b l) % 2 ^ 14
rounded_b-long b l h =
    ap (λ (x : ℕ). x / 2 ^ rounded_exponent b l % 2 ^ 14) (rounded_base-long b l h)
    ∙ ap (λ (x : ℕ). x % 2 ^ 14) (in_units (b / grain_of b l) (rounded_exponent b l))

pub rounded_t-long : (b l : ℕ) → 4096 ≤ l → rounded_t b l ≡ 8 * div_up (b + l) (grain_of b l) % 2 ^ 14
rounded_t-long b l h =
    ap (λ (x : ℕ). x / 2 ^ rounded_exponent b l % 2 ^ 14) (rounded_top-long b l h)
    ∙ ap (λ (x : ℕ). x % 2 ^ 14) (in_units (div_up (b + l) (grain_of b l)) (rounded_exponent b l))

-- the fields of a rounding are fields of a word
pub AreFields-rounded : (b l : ℕ) → l < 2 ^ 64 → AreFields (rounded_ie l) (rounded_exponent b l) (rounded_b b l) (rounded_t b l)
AreFields-rounded b l fits = record {
  e_fits = omega (arith, rounded_exponent-le b l fits);
  b_fits = omega arith;
  t_fits = omega arith;
  no_exponent = λ q. elim (cases_lt l 4096) [
    | inl short ↦ rounded_exponent-short b l short
    | inr long ↦ let is : rounded_ie l ≡ true = rounded_ie-long l long in cc
  ];
  b_aligned = λ q. elim (cases_lt l 4096) [
    | inl short ↦ let is : rounded_ie l ≡ false = rounded_ie-short l short in cc
    | inr long ↦ omega (arith, rounded_b-long b l long)
  ];
  t_aligned = λ q. elim (cases_lt l 4096) [
    | inl short ↦ let is : rounded_ie l ≡ false = rounded_ie-short l short in cc
    | inr long ↦ omega (arith, rounded_t-long b l long)
  ];
}

span-short : (b l : ℕ) → l < 4096 → span_at (b % 2 ^ 14) ((b + l) % 2 ^ 14 % 2 ^ 12) false * 2 ^ 0 ≡ l
span-short b l h = omega arith

span-long : (lo hi units : ℕ) → lo + units ≡ hi → 512 ≤ units → units < 1024
    → span_at (8 * lo % 2 ^ 14) (8 * hi % 2 ^ 14 % 2 ^ 12) true ≡ 8 * units
span-long lo hi units sum from below = omega arith

-- a short request
HasBounds-short : (w b l : ℕ) → l < 4096 → b < 2 ^ 64 → b + l ≤ 2 ^ 64
    → HasBounds (rounded_word w b l) (rounded_base b l) l (rounded_top b l)
HasBounds-short w b l short fits within =
    let e_is : rounded_exponent b l ≡ 0 = rounded_exponent-short b l short in
    let base_is : rounded_base b l ≡ b = rounded_base-short b l short in
    let top_is : rounded_top b l ≡ b + l = rounded_top-short b l short in
    let raw : raw_base_at (rounded_exponent b l) (rounded_b b l) b ≡ rounded_base b l + 2 ^ 66 =
    rw (sym (short_b b l short), e_is, base_is) (raw_base_at-short b) in
    let span : span_at (rounded_b b l) (rounded_t b l % 2 ^ 12) (rounded_ie l) * 2 ^ rounded_exponent b l ≡ l =
    rw (sym (short_b b l short), sym (short_t b l short), e_is, rounded_ie-short l short) (span-short b l short) in
    HasBounds-bounded_word w (rounded_ie l) (rounded_exponent b l) (rounded_b b l) (rounded_t b l) b (rounded_base b l) l
    (rounded_top b l) fits
    (AreFields-rounded b l (omega arith)) (omega arith) raw span (omega arith) (omega arith) (omega arith)

-- a long one
HasBounds-long : (w b l : ℕ) → 4096 ≤ l → l < 2 ^ 64 → b < 2 ^ 64 → b + l ≤ 2 ^ 64
    → HasBounds (rounded_word w b l) (rounded_base b l) (rounded_top b l - rounded_base b l) (rounded_top b l)
HasBounds-long w b l long l_fits fits within =
    let e = rounded_exponent b l in
    let least = IsLeastExponent-rounded b l long l_fits in
    let lo = b / grain_of b l in
    let hi = div_up (b + l) (grain_of b l) in
    let base_is : rounded_base b l ≡ lo * grain_of b l = rounded_base-long b l long in
    let top_is : rounded_top b l ≡ hi * grain_of b l = rounded_top-long b l long in
    let order : lo ≤ hi = down-le-up b l (grain_of b l) (pow_pos (e + 3)) in
    let sum : lo + (hi - lo) ≡ hi = omega arith in
    let raw : raw_base_at e (rounded_b b l) b ≡ rounded_base b l + 2 ^ 66 =
    rw (rounded_b-long b l long, base_is)
    (raw_base_at-grain e lo b least.within (down-le b (grain_of b l)) (down-gt b (grain_of b l) (pow_pos (e + 3)))) in
    let whole : lo * grain_of b l + (hi - lo) * grain_of b l
    ≡ hi * grain_of b l = (let r : lo * grain_of b l + (hi - lo) * grain_of b l ≡ (lo + (hi - lo)) * grain_of b l = omega arith in r)
    ∙ ap (λ (x : ℕ). x * grain_of b l) sum in
    let scaled : 8 * (hi - lo) * 2 ^ e
    ≡ (hi - lo) * grain_of b l = (let r : 8 * (hi - lo) * 2 ^ e ≡ (hi - lo) * (8 * 2 ^ e) = omega arith in r)
    ∙ ap (λ (x : ℕ). (hi - lo) * x) (sym (grain_is e)) in
    let span : span_at (rounded_b b l) (rounded_t b l % 2 ^ 12) (rounded_ie l) * 2 ^ e ≡ rounded_top b l - rounded_base b l =
    rw (rounded_b-long b l long, rounded_t-long b l long, rounded_ie-long l long)
    (ap (λ (x : ℕ). x * 2 ^ e) (span-long lo hi (hi - lo) sum (units-ge b l e long least) least.fits) ∙ scaled ∙ omega arith) in
    HasBounds-bounded_word w (rounded_ie l) e (rounded_b b l) (rounded_t b l) b (rounded_base b l) (rounded_top b l - rounded_base b l)
    (rounded_top b l) fits
    (AreFields-rounded b l l_fits) least.within raw span (omega arith) (omega (arith, rounded_base-le b l))
    (rounded_top-le b l 64 l_fits (omega arith) within)

-- the word of a rounded request has exactly the rounded bounds
pub base_of-rounded_word : (w b l : ℕ) → b < 2 ^ 64 → l < 2 ^ 64 → b + l ≤ 2 ^ 64 → base_of (rounded_word w b l) ≡ rounded_base b l
base_of-rounded_word w b l fits l_fits within = elim (cases_lt l 4096) [
  | inl short ↦ (HasBounds-short w b l short fits within).base_is
  | inr long ↦ (HasBounds-long w b l long l_fits fits within).base_is
]

pub top_of-rounded_word : (w b l : ℕ) → b < 2 ^ 64 → l < 2 ^ 64 → b + l ≤ 2 ^ 64 → top_of (rounded_word w b l) ≡ rounded_top b l
top_of-rounded_word w b l fits l_fits within = elim (cases_lt l 4096) [
  | inl short ↦ (HasBounds-short w b l short fits within).top_is
  | inr long ↦ (HasBounds-long w b l long l_fits fits within).top_is
]

length_of-rounded_word : (w b l : ℕ) → b < 2 ^ 64 → l < 2 ^ 64 → b + l ≤ 2 ^ 64
    → rounded_base b l + length_of (rounded_word w b l) ≡ rounded_top b l
length_of-rounded_word w b l fits l_fits within = elim (cases_lt l 4096) [
  | inl short ↦ omega (
    arith,
    (HasBounds-short w b l short fits within).length_is,
    rounded_base-short b l short,
    rounded_top-short b l short,
  )
  | inr long ↦ omega (arith, (HasBounds-long w b l long l_fits fits within).length_is, rounded_base-le b l, rounded_top-ge b l)
]

-- and is sound
pub IsSound-rounded_word : (w b l : ℕ) → b < 2 ^ 64 → l < 2 ^ 64 → b + l ≤ 2 ^ 64 → IsSound (rounded_word w b l)
IsSound-rounded_word w b l fits l_fits within = (
  ap (λ (x : ℕ). x + length_of (rounded_word w b l)) (base_of-rounded_word w b l fits l_fits within)
      ∙ length_of-rounded_word w b l fits l_fits within ∙ sym (top_of-rounded_word w b l fits l_fits within),
  subst (λ (x : ℕ). x ≤ 2 ^ 64) (sym (top_of-rounded_word w b l fits l_fits within)) (rounded_top-le b l 64 l_fits (omega arith) within),
)

-- the base, the top and the soundness of any word with the fields of a rounding, at the request's base
pub decodes : (w v : ℕ) (ie : Bool) (e b t address base length : ℕ) → v ≡ bounded_word w ie e b t address → base < 2 ^ 64
    → length < 2 ^ 64 → base + length ≤ 2 ^ 64 → address ≡ base → HasRounding ie e b t base length
    → (base_of v ≡ rounded_base base length) × (top_of v ≡ rounded_top base length) × IsSound v
decodes w v ie e b t address base length is fits l_fits within at r =
    rw (is, r.0, r.1, r.2, r.3, at) (
      base_of-rounded_word w base length fits l_fits within,
      top_of-rounded_word w base length fits l_fits within,
      IsSound-rounded_word w base length fits l_fits within,
    )

pub above-rounded_word : (w b l : ℕ) → b < 2 ^ 64 → l < 2 ^ 64 → rounded_word w b l / 2 ^ 91 ≡ w / 2 ^ 91
above-rounded_word w b l fits l_fits = above-bounded_word w (rounded_ie l) (rounded_exponent b l) (rounded_b b l) (rounded_t b l) b fits
    (AreFields-rounded b l l_fits)
