-- Which addresses keep a word's bounds: exactly those of its representable range.
use Rattle.std.proofs.Common.{◌≡◌, ℕ, ◌+◌, ◌-◌, ◌*◌, ◌/◌, ◌%◌, ◌^◌, ◌<◌, ◌≤◌, sym, ap, ◌∙◌, refl, inl, inr, arith}
use Rattle.std.proofs.Common.{subst, mod-lt, mod-eq_of_lt, mul-le-mul_right, pow_pos}
use Rattle.std.proofs.{Math.Nat.{div-add-mod, mod-add-mod, add-mod_right}, lemmas.Bool.cases_lt}
use Rattle.cap_word.specs.Fields.{b_of, t_of, ie_of, address_of}
use Rattle.cap_bounds.specs.Bounds.{window_start_at, cut_exponent_of, unit_of, window_size, span_at, raw_base_at}
use Rattle.cap_bounds.specs.Bounds.{base_of, top_of, length_of}
use Rattle.cap_bounds.specs.Range.{KeepsBounds, IsRepresentable, with_address, window_start}
use Rattle.cap_bounds.proofs.Decoded.{exponent-le, b_of-lt, window_start_at-le, window_start_at-gt, window_start_at-mod}
use Rattle.cap_bounds.proofs.Decoded.{raw_base_from_start, raw_base_at-ge, raw_top-lt, top_at-corrected}
use Rattle.cap_bounds.proofs.{Decoded.{top_at-uncorrected, top_of-corrected, length_is}, Mantissas.span_at-lt}
use Rattle.cap_bounds.proofs.{Powers.{pow_le, size_is, size_divides, size_covers}, Residues.mul-add-mod-mul}
use Rattle.cap_bounds.proofs.SameFields.{base_of-with_address, top_of-with_address}

sub-mod-zero : (x r n : ℕ) → r < n → (x + n - r) % n ≡ 0 → x % n ≡ r
sub-mod-zero x r n h e =
    let p : ((x + n - r) % n + r) % n ≡ (x + n - r + r) % n = mod-add-mod (x + n - r) n r in
    let q : x + n - r + r ≡ x + n = omega arith in
    let z : (0 + r) % n ≡ r = ap (λ (k : ℕ). k % n) (let f : 0 + r ≡ r = omega arith in f) ∙ mod-eq_of_lt h in
    sym (add-mod_right x n) ∙ ap (λ (k : ℕ). k % n) (sym q) ∙ sym p ∙ ap (λ (k : ℕ). (k + r) % n) e ∙ z

-- windows of size s, of which n make 2 ^ 64: start and other begin windows, and y lies in the other
module _ (s n start other rest y : ℕ) (n_pos : 0 < n) (whole : 2 ^ 64 ≡ n * s) (start_rest : start % s ≡ rest)
    (other_rest : other % s ≡ rest) (below : rest < s) (low : other ≤ y + 2 ^ 66) (high : y + 2 ^ 66 < other + s) where
  start-mod : start % 2 ^ 64 ≡ start / s % n * s + rest
  start-mod =
      let d : start ≡ start / s * s + rest = omega (arith, div-add-mod start s) in
      ap (λ (k : ℕ). k % 2 ^ 64) d ∙ ap (λ (k : ℕ). (start / s * s + rest) % k) whole ∙ mul-add-mod-mul (start / s) s n rest n_pos below

  other-mod : other % 2 ^ 64 ≡ other / s % n * s + rest
  other-mod =
      let d : other ≡ other / s * s + rest = omega (arith, div-add-mod other s) in
      ap (λ (k : ℕ). k % 2 ^ 64) d ∙ ap (λ (k : ℕ). (other / s * s + rest) % k) whole ∙ mul-add-mod-mul (other / s) s n rest n_pos below

  distance-is : (y + 2 ^ 64 - start % 2 ^ 64) % 2 ^ 64 ≡ (other / s + n - start / s % n) % n * s + (y + 2 ^ 66 - other)
  distance-is =
      let turn : start / s % n < n = mod-lt (start / s) n_pos in
      let d : other / s * s + rest ≡ other = omega (arith, div-add-mod other s) in
      let split : (other / s + n - start / s % n) * s + start / s % n * s ≡ other / s * s + n * s =
      (let p : (other / s + n - start / s % n) * s + start / s % n * s
      ≡ (other / s + n - start / s % n + start / s % n) * s = omega arith in p)
      ∙ ap (λ (k : ℕ). k * s) (let q : other / s + n - start / s % n + start / s % n ≡ other / s + n = omega arith in q)
      ∙ (let r : (other / s + n) * s ≡ other / s * s + n * s = omega arith in r) in
      let lifted : (y + 2 ^ 64 - start % 2 ^ 64) % 2 ^ 64 ≡ (y + 2 ^ 66 + 2 ^ 64 - start % 2 ^ 64) % 2 ^ 64 = omega arith in
      let apart : y + 2 ^ 66 + 2 ^ 64 - start % 2 ^ 64
      ≡ (other / s + n - start / s % n) * s + (y + 2 ^ 66 - other) = omega (arith, start-mod) in
      lifted ∙ ap (λ (k : ℕ). k % 2 ^ 64) apart ∙ ap (λ (k : ℕ). ((other / s + n - start / s % n) * s + (y + 2 ^ 66 - other)) % k) whole
      ∙ mul-add-mod-mul (other / s + n - start / s % n) s n (y + 2 ^ 66 - other) n_pos (omega arith)

  -- a distance below one window's size: the windows agree modulo 2 ^ 64
  pub near-same : (y + 2 ^ 64 - start % 2 ^ 64) % 2 ^ 64 < s → other % 2 ^ 64 ≡ start % 2 ^ 64
  near-same h =
      let turn : start / s % n < n = mod-lt (start / s) n_pos in
      let none : (other / s + n - start / s % n) % n ≡ 0 = elim (cases_lt 0 ((other / s + n - start / s % n) % n)) [
        | inl more ↦ let p : 1 * s ≤ (other / s + n - start / s % n) % n * s = mul-le-mul_right s more in absurd
            (omega (arith, distance-is))
        | inr lowest ↦ omega arith
      ] in
      other-mod ∙ ap (λ (k : ℕ). k * s + rest) (sub-mod-zero (other / s) (start / s % n) n turn none) ∙ sym start-mod

  pub same-near : other % 2 ^ 64 ≡ start % 2 ^ 64 → (y + 2 ^ 64 - start % 2 ^ 64) % 2 ^ 64 < s
  same-near h =
      let size : s ≤ 2 ^ 64 = omega (arith, mul-le-mul_right s n_pos) in
      omega arith

-- a rest of the window's start: it is below the window's size
aligned-lt : (e b : ℕ) → (b / 2 ^ 11 + 7) % 8 * 2 ^ 11 * 2 ^ e < 2 ^ (e + 14)
aligned-lt e b =
    let h : (b / 2 ^ 11 + 7) % 8 * 2 ^ 11 * 2 ^ e ≤ 14336 * 2 ^ e = mul-le-mul_right (2 ^ e)
    (let f : (b / 2 ^ 11 + 7) % 8 * 2 ^ 11 ≤ 14336 = omega arith in f) in
    omega (arith, size_is e, pow_pos e)

-- up to exponent 50 the bounds agree where the bases do
module _ (w y : ℕ) (near : cut_exponent_of w ≤ 50) (fits : y < 2 ^ 64) where
  keeps-from_base : base_of (with_address w y) ≡ base_of w → KeepsBounds w y
  keeps-from_base h =
      let raw = raw_base_at (cut_exponent_of w) (b_of w) y in (
        h,
        top_of-with_address w y fits ∙ top_at-corrected (cut_exponent_of w) raw (length_of w) near
            ∙ ap (λ (k : ℕ). k + length_of w) (sym (base_of-with_address w y fits) ∙ h) ∙ sym (top_of-corrected w near),
      )

  -- and the bases where the windows' starts do
  base-from_start : window_start_at (cut_exponent_of w) (b_of w) y % 2 ^ 64 ≡ window_start w % 2 ^ 64
      → base_of (with_address w y) ≡ base_of w
  unfolding base_of window_start
  base-from_start h =
      omega (
        arith,
        base_of-with_address w y fits,
        raw_base_from_start (cut_exponent_of w) (b_of w) y (exponent-le w) (b_of-lt w),
        raw_base_from_start (cut_exponent_of w) (b_of w) (address_of w) (exponent-le w) (b_of-lt w),
      )

  start-from_base : base_of (with_address w y) ≡ base_of w
      → window_start_at (cut_exponent_of w) (b_of w) y % 2 ^ 64 ≡ window_start w % 2 ^ 64
  unfolding base_of window_start
  start-from_base h =
      omega (
        arith,
        base_of-with_address w y fits,
        raw_base_from_start (cut_exponent_of w) (b_of w) y (exponent-le w) (b_of-lt w),
        raw_base_from_start (cut_exponent_of w) (b_of w) (address_of w) (exponent-le w) (b_of-lt w),
      )

  keeps-from_near : (y + 2 ^ 64 - window_start w % 2 ^ 64) % 2 ^ 64 < window_size w → KeepsBounds w y
  unfolding window_start
  keeps-from_near h =
      let e = cut_exponent_of w in
      let b = b_of w in
      keeps-from_base (base-from_start
      (near-same (2 ^ (e + 14)) (2 ^ (50 - e)) (window_start w) (window_start_at e b y) ((b / 2 ^ 11 + 7) % 8 * 2 ^ 11 * 2 ^ e) y
      (pow_pos (50 - e)) (size_divides e near)
      (window_start_at-mod e b (address_of w) (exponent-le w) (b_of-lt w)) (window_start_at-mod e b y (exponent-le w) (b_of-lt w))
      (aligned-lt e b)
      (window_start_at-le e b y (exponent-le w) (b_of-lt w)) (window_start_at-gt e b y (exponent-le w) (b_of-lt w)) h))

  near-from_keeps : KeepsBounds w y → (y + 2 ^ 64 - window_start w % 2 ^ 64) % 2 ^ 64 < window_size w
  unfolding window_start
  near-from_keeps h =
      let e = cut_exponent_of w in
      let b = b_of w in
      same-near (2 ^ (e + 14)) (2 ^ (50 - e)) (window_start w) (window_start_at e b y) ((b / 2 ^ 11 + 7) % 8 * 2 ^ 11 * 2 ^ e) y
      (pow_pos (50 - e)) (size_divides e near)
      (window_start_at-mod e b (address_of w) (exponent-le w) (b_of-lt w)) (window_start_at-mod e b y (exponent-le w) (b_of-lt w))
      (aligned-lt e b)
      (window_start_at-le e b y (exponent-le w) (b_of-lt w)) (window_start_at-gt e b y (exponent-le w) (b_of-lt w)) (start-from_base h.0)

-- from exponent 51 on the address drops out
raw-far : (e b a : ℕ) → 51 ≤ e → raw_base_at e b a % 2 ^ 65 ≡ b * 2 ^ e % 2 ^ 65
unfolding raw_base_at
raw-far e b a h =
    let turn = ((a + 2 ^ 66) / 2 ^ (e + 11) + 1 - b / 2 ^ 11) / 8 in
    let whole : 16384 * 2 ^ e ≡ 2 ^ (e - 51) * 2 ^ 65 = sym (size_is e) ∙ size_covers e h in
    let p : (2 ^ 14 * turn + b) * 2 ^ e ≡ turn * (16384 * 2 ^ e) + b * 2 ^ e = omega arith in
    let q : turn * (2 ^ (e - 51) * 2 ^ 65) + b * 2 ^ e ≡ turn * 2 ^ (e - 51) * 2 ^ 65 + b * 2 ^ e = omega arith in
    ap (λ (k : ℕ). k % 2 ^ 65) (p ∙ ap (λ (k : ℕ). turn * k + b * 2 ^ e) whole ∙ q)
    ∙ (let r : (turn * 2 ^ (e - 51) * 2 ^ 65 + b * 2 ^ e) % 2 ^ 65 ≡ b * 2 ^ e % 2 ^ 65 = omega arith in r)

keeps-far : (w y : ℕ) → 51 ≤ cut_exponent_of w → y < 2 ^ 64 → KeepsBounds w y
unfolding base_of top_of
keeps-far w y h fits =
    let e = cut_exponent_of w in
    let b = b_of w in
    let same : raw_base_at e b y % 2 ^ 65 ≡ raw_base_at e b (address_of w) % 2 ^ 65 = raw-far e b y h
    ∙ sym (raw-far e b (address_of w) h) in
    let top : (raw_base_at e b y + length_of w) % 2 ^ 65 ≡ (raw_base_at e b (address_of w) + length_of w) % 2 ^ 65 = omega arith in (
      base_of-with_address w y fits ∙ (let r : raw_base_at e b y % 2 ^ 64 ≡ raw_base_at e b (address_of w) % 2 ^ 64 = omega arith in r),
      top_of-with_address w y fits ∙ top_at-uncorrected e (raw_base_at e b y) (length_of w) h ∙ top
          ∙ sym (top_at-uncorrected e (raw_base_at e b (address_of w)) (length_of w) h),
    )

-- from exponent 50 on every address keeps the bounds
pub KeepsBounds-always : (w y : ℕ) → 50 ≤ cut_exponent_of w → y < 2 ^ 64 → KeepsBounds w y
KeepsBounds-always w y h fits = elim (cases_lt 50 (cut_exponent_of w)) [
  | inl far ↦ keeps-far w y far fits
  | inr near ↦
      let size : 2 ^ 64 ≤ window_size w = pow_le 64 (cut_exponent_of w + 14) (omega arith) in
      keeps-from_near w y near fits (omega arith)
]

-- an address keeps the bounds exactly in the representable range
pub KeepsBounds-from_range : (w y : ℕ) → y < 2 ^ 64 → IsRepresentable w y → KeepsBounds w y
KeepsBounds-from_range w y fits h = elim (cases_lt (cut_exponent_of w) 50) [
  | inl near ↦ keeps-from_near w y (omega arith) fits (h near)
  | inr far ↦ KeepsBounds-always w y far fits
]

pub IsRepresentable-from_keeps : (w y : ℕ) → y < 2 ^ 64 → KeepsBounds w y → IsRepresentable w y
IsRepresentable-from_keeps w y fits h near = near-from_keeps w y (omega arith) fits h

-- up to exponent 49 some address does not keep the bounds
pub KeepsBounds-not_always : (w : ℕ) → cut_exponent_of w < 50 → ((y : ℕ) → y < 2 ^ 64 → KeepsBounds w y) → ⊥
KeepsBounds-not_always w near h =
    let size : window_size w ≤ 2 ^ 63 = pow_le (cut_exponent_of w + 14) 63 (omega arith) in
    let y = (window_start w % 2 ^ 64 + window_size w) % 2 ^ 64 in
    let fits : y < 2 ^ 64 = omega arith in
    omega (arith, IsRepresentable-from_keeps w y fits (h y fits) near)

margin : (x raw length start size low high base top : ℕ) → base ≡ raw % 2 ^ 64 → top ≡ base + length → start + low ≤ raw
    → raw + length + high < start + size → size ≤ 2 ^ 64 → base + 2 ^ 64 ≤ x + low → x ≤ top + 2 ^ 64 + high
    → (x % 2 ^ 64 + 2 ^ 64 - start % 2 ^ 64) % 2 ^ 64 < size
margin x raw length start size low high base top base_is top_is from below fits x_from x_below =
    omega arith

-- so do the addresses from 2 ^ 11 units below the base to 2 ^ 12 units above the top, 2 ^ 64 higher
margins-near : (w x : ℕ) → cut_exponent_of w < 50 → base_of w + 2 ^ 64 ≤ x + 2 ^ 11 * unit_of w
    → x ≤ top_of w + 2 ^ 64 + 2 ^ 12 * unit_of w → (x % 2 ^ 64 + 2 ^ 64 - window_start w % 2 ^ 64) % 2 ^ 64 < window_size w
unfolding base_of window_start
margins-near w x near from below =
    let e = cut_exponent_of w in
    let d = span_at (b_of w) (t_of w) (ie_of w) in
    let room : raw_base_at e (b_of w) (address_of w) + d * 2 ^ e + 2 ^ 12 * 2 ^ e < window_start_at e (b_of w) (address_of w) + 2 ^
    (e + 14) =
    raw_top-lt e (b_of w) (address_of w) (exponent-le w) (b_of-lt w) d (span_at-lt (b_of w) (t_of w) (ie_of w)) in
    margin x (raw_base_at e (b_of w) (address_of w)) (length_of w) (window_start_at e (b_of w) (address_of w)) (2 ^ (e + 14))
    (2 ^ 11 * 2 ^ e)
    (2 ^ 12 * 2 ^ e) (base_of w) (top_of w) refl (top_of-corrected w (omega arith))
    (raw_base_at-ge e (b_of w) (address_of w) (exponent-le w) (b_of-lt w))
    (subst (λ (k : ℕ). raw_base_at e (b_of w) (address_of w) + k + 2 ^ 12 * 2 ^ e < window_start_at e (b_of w) (address_of w) + 2 ^
    (e + 14))
    (sym (length_is w)) room)
    (pow_le (e + 14) 64 (omega arith)) from below

pub KeepsBounds-margins : (w x : ℕ) → base_of w + 2 ^ 64 ≤ x + 2 ^ 11 * unit_of w → x ≤ top_of w + 2 ^ 64 + 2 ^ 12 * unit_of w
    → KeepsBounds w (x % 2 ^ 64)
KeepsBounds-margins w x from below = elim (cases_lt (cut_exponent_of w) 50) [
  | inl near ↦ KeepsBounds-from_range w (x % 2 ^ 64) (omega arith) (λ _. margins-near w x near from below)
  | inr far ↦ KeepsBounds-always w (x % 2 ^ 64) far (omega arith)
]

-- the range by its start and its size
pub KeepsBounds-exact : (w start size y : ℕ) → cut_exponent_of w < 50 → y < 2 ^ 64 → start ≡ window_start w % 2 ^ 64
    → size ≡ window_size w
    → (KeepsBounds w y → (y + 2 ^ 64 - start) % 2 ^ 64 < size) × ((y + 2 ^ 64 - start) % 2 ^ 64 < size → KeepsBounds w y)
KeepsBounds-exact w start size y near fits start_is size_is = (
  λ k. subst (λ (x : ℕ). (y + 2 ^ 64 - start) % 2 ^ 64 < x) (sym size_is)
      (subst (λ (x : ℕ). (y + 2 ^ 64 - x) % 2 ^ 64 < window_size w) (sym start_is) (IsRepresentable-from_keeps w y fits k near)),
  λ h. KeepsBounds-from_range w y fits
      (λ _. subst (λ (x : ℕ). (y + 2 ^ 64 - x) % 2 ^ 64 < window_size w) start_is
      (subst (λ (x : ℕ). (y + 2 ^ 64 - start) % 2 ^ 64 < x) size_is h)),
)
