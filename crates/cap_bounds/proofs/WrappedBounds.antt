-- What the code computes of bounds in 64 bits: the window's start, the base, and the top that hangs on no address.
use Rattle.std.proofs.Common.{◌≡◌, ℕ, ◌+◌, ◌-◌, ◌*◌, ◌/◌, ◌%◌, ◌^◌, ◌<◌, ◌≤◌, sym, ap, ◌∙◌, arith, pow_pos, shr-shr}
use Rattle.std.proofs.Common.{mul-le-mul_right}
use Rattle.std.proofs.{Math.Nat.add-mul-div_right, lemmas.Nat.{shl_whole, shl_below}}
use Rattle.cap_word.specs.Fields.{address_of, b_of, ie_of, t_of}
use Rattle.cap_bounds.specs.Bounds.{IsSound, base_of, cut_exponent_of, raw_base_at, span_at, top_at, top_of, window_start_at}
use Rattle.cap_bounds.proofs.{Decoded.{decoded, top_at-uncorrected}, Powers.{pow_split, pow_le, eighth_is, size_covers}}
use Rattle.cap_bounds.proofs.Windows.{eighth_of, eighth-le, eighth-gt, eighth-mod}

-- a wrapped difference from a multiple of 2048 below 2 ^ 14, modulo 2 ^ 14
wrapped : (units k : ℕ) → k < 8 → (units + (2 ^ 64 - k * 2048 % 2 ^ 64)) % 2 ^ 64 % 2 ^ 14 ≡ (units + 16384 - k * 2048) % 16384
wrapped units k h = omega arith

-- the window starts at the eighth n at or below the units' own, less than eight below it
above_start : (units n : ℕ) → n ≤ units / 2048 → units / 2048 < n + 8 → 2048 * n + (units + 16384 - n % 8 * 2048) % 16384 ≡ units
above_start units n h k = omega arith

more_windows : (units c k : ℕ) → k < 8 → (units + 16384 * c + 16384 - k * 2048) % 16384 ≡ (units + 16384 - k * 2048) % 16384
more_windows units c k h = omega arith

same_mod : (x y i j : ℕ) → x + 2 ^ 64 * i ≡ y + 2 ^ 64 * j → x % 2 ^ 64 ≡ y % 2 ^ 64
same_mod x y i j h = omega arith

-- units that lie y above n eighths, of v addresses each, where c windows have 2 ^ 66 addresses
from_units : (units y n c v : ℕ) → y < 2 ^ 64 → 2048 * n + y ≡ units + 16384 * c → c * v ≡ 2 ^ 52
    → (units + (2 ^ 64 - y)) % 2 ^ 64 * v % 2 ^ 64 ≡ n * (2048 * v) % 2 ^ 64
from_units units y n c v small h unit =
    let m = (units + (2 ^ 64 - y)) % 2 ^ 64 in
    let k = (units + (2 ^ 64 - y)) / 2 ^ 64 in
    let whole : m + 2 ^ 64 * k + y ≡ units + 2 ^ 64 = omega arith in
    let f : (m + 2 ^ 64 * k + y) * v ≡ (units + 2 ^ 64) * v = ap (λ (x : ℕ). x * v) whole in
    let g : (2048 * n + y) * v ≡ (units + 16384 * c) * v = ap (λ (x : ℕ). x * v) h in
    let e : m * v + 2 ^ 64 * (k * v + 4) ≡ n * (2048 * v) + 2 ^ 64 * v = omega (arith, f, g, unit) in
    same_mod (m * v) (n * (2048 * v)) (k * v + 4) v e

-- units raised by 2 ^ 11 and lowered by B's eighths, down to a multiple of 2 ^ 14, where c windows have 2 ^ 66 addresses
abbrev raised_sum : ℕ → ℕ → ℕ
raised_sum units b = (units + 2048) % 2 ^ 64 + (2 ^ 64 - (b - b % 2048))

floored : (units b c : ℕ) → b < 2 ^ 14 → 0 < c
    → 2 ^ 14 * (((units + 16384 * c) / 2048 + 1 - b / 2048) / 8) + 2 ^ 64
    ≡ raised_sum units b % 2 ^ 64 - raised_sum units b % 2 ^ 64 % 16384
    + 2 ^ 64 * ((units + 2048) / 2 ^ 64 + raised_sum units b / 2 ^ 64) + 16384 * c
floored units b c hb hc = omega arith

module _ (e b a : ℕ) (he : e ≤ 52) (hb : b < 2 ^ 14) where
  -- the address, 2 ^ 66 higher, in units
  units_is : (a + 2 ^ 66) / 2 ^ e ≡ a / 2 ^ e + 16384 * 2 ^ (52 - e)
  units_is =
      let f : 2 ^ 66 ≡ 2 ^ (66 - e) * 2 ^ e = pow_split 66 (66 - e) e (omega arith) in
      let g : 2 ^ (66 - e) ≡ 2 ^ 14 * 2 ^ (52 - e) = pow_split (66 - e) 14 (52 - e) (omega arith) in
      ap (λ (x : ℕ). (a + x) / 2 ^ e) f ∙ add-mul-div_right a (2 ^ (66 - e)) (pow_pos e) ∙ ap (λ (x : ℕ). a / 2 ^ e + x) g

  eighths_is : (a + 2 ^ 66) / 2 ^ (e + 11) ≡ (a / 2 ^ e + 16384 * 2 ^ (52 - e)) / 2048
  eighths_is = sym (shr-shr (a + 2 ^ 66) e 11) ∙ ap (λ (x : ℕ). x / 2048) units_is

  -- how far the address lies above the window's start, in units
  abbrev above : ℕ
  above = (a / 2 ^ e + (2 ^ 64 - (b / 2048 + 7) % 8 * 2048 % 2 ^ 64)) % 2 ^ 64 % 2 ^ 14

  pub window_wrapped : (a / 2 ^ e + (2 ^ 64 - above)) % 2 ^ 64 * 2 ^ e % 2 ^ 64 ≡ window_start_at e b a % 2 ^ 64
  window_wrapped =
      let units = a / 2 ^ e in
      let c = 2 ^ (52 - e) in
      let eighths = (units + 16384 * c) / 2048 in
      let n = eighth_of b eighths in
      let pos : 0 < c = pow_pos (52 - e) in
      let far : 8 ≤ eighths = omega arith in
      let bits : n % 8 ≡ (b / 2048 + 7) % 8 = eighth-mod b eighths hb far in
      let y_is : above ≡ (units + 16384 * c + 16384 - n % 8 * 2048) % 16384 =
      wrapped units ((b / 2048 + 7) % 8) (omega arith) ∙ sym (more_windows units c ((b / 2048 + 7) % 8) (omega arith))
      ∙ ap (λ (x : ℕ). (units + 16384 * c + 16384 - x * 2048) % 16384) (sym bits) in
      let h : 2048 * n + above ≡ units + 16384 * c =
      ap (λ (x : ℕ). 2048 * n + x) y_is ∙ above_start (units + 16384 * c) n (eighth-le b eighths hb far) (eighth-gt b eighths hb far) in
      let unit : c * 2 ^ e ≡ 2 ^ 52 = sym (pow_split 52 (52 - e) e (omega arith)) in
      from_units units above n c (2 ^ e) (omega arith) h unit
      ∙ ap (λ (x : ℕ). n * x % 2 ^ 64) (sym (eighth_is e))
      ∙ ap (λ (x : ℕ). eighth_of b x * 2 ^ (e + 11) % 2 ^ 64) (sym eighths_is)

  -- the base is B above such a multiple
  pub base_floored : (raised_sum (a / 2 ^ e) b % 2 ^ 64 - raised_sum (a / 2 ^ e) b % 2 ^ 64 % 16384 + b) % 2 ^ 64 * 2 ^ e % 2 ^ 64
      ≡ raw_base_at e b a % 2 ^ 64
  unfolding raw_base_at
  base_floored =
      let v = 2 ^ e in
      let c = 2 ^ (52 - e) in
      let units = a / 2 ^ e in
      let t = ((units + 16384 * c) / 2048 + 1 - b / 2048) / 8 in
      let floor = raised_sum units b % 2 ^ 64 - raised_sum units b % 2 ^ 64 % 16384 in
      let j = (units + 2048) / 2 ^ 64 + raised_sum units b / 2 ^ 64 in
      let m = (floor + b) % 2 ^ 64 in
      let k = (floor + b) / 2 ^ 64 in
      let unit : c * v ≡ 2 ^ 52 = sym (pow_split 52 (52 - e) e (omega arith)) in
      let whole : m + 2 ^ 64 * k ≡ floor + b = omega arith in
      let f : (m + 2 ^ 64 * k) * v ≡ (floor + b) * v = ap (λ (x : ℕ). x * v) whole in
      let g : (2 ^ 14 * t + 2 ^ 64) * v ≡ (floor + 2 ^ 64 * j + 16384 * c) * v =
      ap (λ (x : ℕ). x * v) (floored units b c hb (pow_pos (52 - e))) in
      let same : m * v + 2 ^ 64 * (k * v + j * v + 4) ≡ (2 ^ 14 * t + b) * v + 2 ^ 64 * v = omega (arith, f, g, unit) in
      same_mod (m * v) ((2 ^ 14 * t + b) * v) (k * v + j * v + 4) v same
      ∙ ap (λ (x : ℕ). (2 ^ 14 * ((x + 1 - b / 2048) / 8) + b) * 2 ^ e % 2 ^ 64) (sym eighths_is)

-- from the cut exponent 51 on the windows are multiples of 2 ^ 65
far_sum : (t b d v k : ℕ) → 16384 * v ≡ k * 2 ^ 65 → ((2 ^ 14 * t + b) * v + d * v) % 2 ^ 65 ≡ (b + d) * v % 2 ^ 65
far_sum t b d v k h =
    let f : t * (16384 * v) ≡ t * (k * 2 ^ 65) = ap (λ (x : ℕ). t * x) h in
    let g : (2 ^ 14 * t + b) * v + d * v ≡ (b + d) * v + 2 ^ 65 * (t * k) = omega (arith, f) in
    let r : (p q i : ℕ) → p ≡ q + 2 ^ 65 * i → p % 2 ^ 65 ≡ q % 2 ^ 65 = λ p q i e. omega arith in
    r ((2 ^ 14 * t + b) * v + d * v) ((b + d) * v) (t * k) g

pub top_without_address : (e b a d : ℕ) → 51 ≤ e → (b + d) * 2 ^ e % 2 ^ 65 ≡ top_at e (raw_base_at e b a) (d * 2 ^ e)
unfolding raw_base_at
top_without_address e b a d h =
    let windows : 16384 * 2 ^ e ≡ 2 ^ (e - 51) * 2 ^ 65 = sym (pow_split (e + 14) 14 e (omega arith)) ∙ size_covers e h in
    sym (far_sum (((a + 2 ^ 66) / 2 ^ (e + 11) + 1 - b / 2 ^ 11) / 8) b d (2 ^ e) (2 ^ (e - 51)) windows)
    ∙ sym (top_at-uncorrected e (raw_base_at e b a) (d * 2 ^ e) h)

-- the base of a sound word that holds some address, and its last address, from what it decodes to
pub extent_is : (w e b d a base : ℕ) → IsSound w → e ≡ cut_exponent_of w → b ≡ b_of w → d ≡ span_at (b_of w) (t_of w) (ie_of w)
    → a ≡ address_of w → base ≡ raw_base_at e b a % 2 ^ 64 → 0 < d
    → (base ≡ base_of w) × (base + ((d * 2 ^ e % 2 ^ 64 + (2 ^ 64 - 1)) % 2 ^ 64 + 1) ≡ top_of w)
extent_is w e b d a base is_sound e_is b_is d_is a_is base_is some =
    let is = decoded w e b d a e_is b_is d_is a_is in
    (base_is ∙ is.0, omega (arith, is_sound, is.0, is.1, base_is, mul-le-mul_right (2 ^ e) some, pow_pos e))

pub short_shifted : (e d : ℕ) → e ≤ 50 → d < 2 ^ 13 → d * 2 ^ e % 2 ^ 64 ≡ d * 2 ^ e
short_shifted e d he hd = shl_whole d 13 e 64 hd (omega arith)

pub short-lt : (e d : ℕ) → e ≤ 50 → d < 2 ^ 13 → d * 2 ^ e < 2 ^ 63
short-lt e d he hd = omega (arith, shl_below d 13 e hd, pow_le (13 + e) 63 (omega arith))
