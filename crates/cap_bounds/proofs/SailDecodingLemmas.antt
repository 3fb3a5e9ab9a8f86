-- The bounds that Sail decodes of a word are those of its window.
use Rattle.std.proofs.Common.{◌≡◌, ℕ, ◌+◌, ◌-◌, ◌*◌, ◌/◌, ◌%◌, ◌^◌, ◌<◌, ◌≤◌, Bool, true, false, sym, ap, ◌∙◌, inl, inr}
use Rattle.std.proofs.{Common.{◌⊎◌, arith, pow_pos, shr-shr}, Math.Nat.add-mul-div_right, lemmas.Bool.cases_lt}
use Rattle.std.proofs.lemmas.Bool.Decides.{nat_tests}
use Rattle.cap_word.specs.Fields.{ie_of, b_of, t_of, address_of}
use Rattle.cap_bounds.specs.Bounds.{span_at, cut_exponent_of, unit_of, raw_base_at, length_of, base_of, top_of}
use Rattle.cap_bounds.specs.SailDecoding.{below_bit, sail_mantissa, sail_a3, sail_a_top, sail_high_three, sail_r3}
use Rattle.cap_bounds.specs.SailDecoding.{sail_bound, sail_corrected_top, sail_base_65, sail_base, sail_top}
use Rattle.cap_bounds.proofs.Decoded.{exponent-le, b_of-lt, t_of-lt, length_is, length_of-lt, top_at-corrected}
use Rattle.cap_bounds.proofs.{Decoded.top_at-uncorrected, Mantissas.span_at-lt, Powers.pow_split}

-- the bit of a comparison x < y
abbrev IsBelowBit : ℕ → ℕ → ℕ → Type 0
IsBelowBit x y bit = ((x < y) × (bit ≡ 1)) ⊎ ((y ≤ x) × (bit ≡ 0))

below_bit-is : (x y : ℕ) → IsBelowBit x y (below_bit x y)
unfolding below_bit
below_bit-is x y = elim (cases_lt x y) [ inl h ↦ inl (h, grind (arith, nat_tests)) | inr h ↦ inr (h, grind (arith, nat_tests)) ]

below_bit-le : (x y : ℕ) → below_bit x y ≤ 1
below_bit-le x y = elim (below_bit-is x y) [ inl c ↦ omega (arith, c) | inr c ↦ omega (arith, c) ]

-- the two bits that Sail puts above the low twelve bits of T
sail_mantissa-from : (b low carry i : ℕ) → b < 2 ^ 14 → low < 2 ^ 12 → IsBelowBit low (b % 2 ^ 12) carry
    → (b / 2 ^ 12 + carry + i) % 4 * 2 ^ 12 + low ≡ (b + (2 ^ 12 * i + (low + 2 ^ 14 - b) % 2 ^ 12)) % 2 ^ 14
sail_mantissa-from b low carry i h k p = elim p [ inl c ↦ omega (arith, c) | inr c ↦ omega (arith, c) ]

sail_mantissa-is : (b low : ℕ) (ie : Bool) → b < 2 ^ 14 → low < 2 ^ 12 → sail_mantissa b low ie ≡ (b + span_at b low ie) % 2 ^ 14
sail_mantissa-is b low true h k = sail_mantissa-from b low (below_bit low (b % 2 ^ 12)) 1 h k (below_bit-is low (b % 2 ^ 12))
sail_mantissa-is b low false h k = sail_mantissa-from b low (below_bit low (b % 2 ^ 12)) 0 h k (below_bit-is low (b % 2 ^ 12))

-- the corrections are those of a window: n is the address in eighths of a window
turn-is : (n m b a_hi b_hi : ℕ) → b < 16384 → 0 < m → IsBelowBit (n % 8) ((b / 2048 + 7) % 8) a_hi
    → IsBelowBit (b / 2048) ((b / 2048 + 7) % 8) b_hi → (n + 8 * m + 1 - b / 2048) / 8 + a_hi ≡ n / 8 + m + b_hi
turn-is n m b a_hi b_hi h pos p q = elim p [
  | inl c ↦ elim q [ inl d ↦ omega arith | inr d ↦ omega arith ]
  | inr c ↦ elim q [ inl d ↦ omega arith | inr d ↦ omega arith ]
]

-- T lies in the next window just where tHi says so
carry-is : (b d b_hi t_hi : ℕ) → b < 16384 → d < 8192 → IsBelowBit (b / 2048) ((b / 2048 + 7) % 8) b_hi
    → IsBelowBit ((b + d) % 16384 / 2048) ((b / 2048 + 7) % 8) t_hi → b + d + 16384 * b_hi ≡ (b + d) % 16384 + 16384 * t_hi
carry-is b d b_hi t_hi h k p q = elim p [
  | inl c ↦ elim q [ inl e ↦ omega arith | inr e ↦ omega arith ]
  | inr c ↦ elim q [ inl e ↦ omega arith | inr e ↦ omega arith ]
]

-- inverting bit 64 takes the top to the first one above the base
sail_corrected_top-low : (e raw length : ℕ) → e ≤ 50 → length < 2 ^ 63
    → sail_corrected_top e (raw % 2 ^ 65) ((raw + length) % 2 ^ 65) ≡ raw % 2 ^ 64 + length
sail_corrected_top-low e raw length h k = grind (arith, nat_tests)

sail_corrected_top-high : (e base top : ℕ) → 51 ≤ e → sail_corrected_top e base top ≡ top
sail_corrected_top-high e base top h = grind (arith, nat_tests)

-- two multiples of a unit u that differ by multiples of 2 ^ 78 units and of m units, of which each is a
-- multiple of 2 ^ 65
same_bound : (u m x y c : ℕ) → m * u ≡ 2 ^ 52 → x + 2 ^ 78 * c + 2 ^ 14 * m ≡ y + 2 ^ 78 → x * u % 2 ^ 65 ≡ y * u % 2 ^ 65
same_bound u m x y c e h =
    let f : (x + 2 ^ 78 * c + 2 ^ 14 * m) * u ≡ (y + 2 ^ 78) * u = ap (λ (z : ℕ). z * u) h in
    let g : x * u + 2 ^ 65 * (2 ^ 13 * (c * u) + 2) ≡ y * u + 2 ^ 65 * (2 ^ 13 * u) = omega (arith, f, e) in
    let r : (p q i j : ℕ) → p + 2 ^ 65 * i ≡ q + 2 ^ 65 * j → p % 2 ^ 65 ≡ q % 2 ^ 65 = λ p q i j k. omega arith in
    r (x * u) (y * u) (2 ^ 13 * (c * u) + 2) (2 ^ 13 * u) g

module _ (e b address : ℕ) (he : e ≤ 52) (hb : b < 2 ^ 14) where
  -- the address, 2 ^ 66 higher, in eighths of a window
  eighths_is : (address + 2 ^ 66) / 2 ^ (e + 11) ≡ address / 2 ^ (e + 11) + 8 * 2 ^ (52 - e)
  eighths_is =
      let f : 2 ^ 66 ≡ 2 ^ (55 - e) * 2 ^ (e + 11) = pow_split 66 (55 - e) (e + 11) (omega arith) in
      let g : 2 ^ (55 - e) ≡ 2 ^ 3 * 2 ^ (52 - e) = pow_split (55 - e) 3 (52 - e) (omega arith) in
      ap (λ (x : ℕ). (address + x) / 2 ^ (e + 11)) f ∙ add-mul-div_right address (2 ^ (55 - e)) (pow_pos (e + 11))
      ∙ ap (λ (x : ℕ). address / 2 ^ (e + 11) + x) g

  a_top_is : address / 2 ^ (e + 11) / 8 ≡ sail_a_top e address
  a_top_is = shr-shr address (e + 11) 3 ∙ ap (λ (x : ℕ). address / 2 ^ x) (let f : e + 11 + 3 ≡ e + 14 = omega arith in f)

  -- the window that the corrections find for the base is the window of the address
  turn_is : ((address + 2 ^ 66) / 2 ^ (e + 11) + 1 - b / 2 ^ 11) / 8 + below_bit (sail_a3 e address) (sail_r3 b)
      ≡ sail_a_top e address + 2 ^ (52 - e) + below_bit (sail_high_three b) (sail_r3 b)
  turn_is =
      ap (λ (x : ℕ). (x + 1 - b / 2 ^ 11) / 8 + below_bit (sail_a3 e address) (sail_r3 b)) eighths_is
      ∙ turn-is (address / 2 ^ (e + 11)) (2 ^ (52 - e)) b (below_bit (sail_a3 e address) (sail_r3 b))
      (below_bit (sail_high_three b) (sail_r3 b)) hb (pow_pos (52 - e))
      (below_bit-is (sail_a3 e address) (sail_r3 b)) (below_bit-is (sail_high_three b) (sail_r3 b))
      ∙ ap (λ (x : ℕ). x + 2 ^ (52 - e) + below_bit (sail_high_three b) (sail_r3 b)) a_top_is

  -- what Sail puts together of B or T is the raw base or top, cut to 65 bits
  sail_bound_is : (d : ℕ) → d < 8192 → sail_bound e b address ((b + d) % 2 ^ 14) ≡ (raw_base_at e b address + d * 2 ^ e) % 2 ^ 65
  unfolding raw_base_at
  sail_bound_is d hd =
      let turn = ((address + 2 ^ 66) / 2 ^ (e + 11) + 1 - b / 2 ^ 11) / 8 in
      let t = (b + d) % 2 ^ 14 in
      let a_hi = below_bit (sail_a3 e address) (sail_r3 b) in
      let t_hi = below_bit (sail_high_three t) (sail_r3 b) in
      let sum = sail_a_top e address + t_hi + 2 ^ 64 - a_hi in
      let carry : b + d + 16384 * below_bit (sail_high_three b) (sail_r3 b) ≡ t + 16384 * t_hi
      = carry-is b d (below_bit (sail_high_three b) (sail_r3 b)) t_hi hb hd (below_bit-is (sail_high_three b) (sail_r3 b))
      (below_bit-is (sail_high_three t) (sail_r3 b)) in
      let small : a_hi ≤ 1 = below_bit-le (sail_a3 e address) (sail_r3 b) in
      let unit : 2 ^ (52 - e) * 2 ^ e ≡ 2 ^ 52 = sym (pow_split 52 (52 - e) e (omega arith)) in
      let h : sum % 2 ^ 64 * 2 ^ 14 + t + 2 ^ 78 * (sum / 2 ^ 64) + 2 ^ 14 * 2 ^ (52 - e)
      ≡ 2 ^ 14 * turn + b + d + 2 ^ 78 = omega (arith, turn_is) in
      let g : (2 ^ 14 * turn + b) * 2 ^ e + d * 2 ^ e ≡ (2 ^ 14 * turn + b + d) * 2 ^ e = omega arith in
      same_bound (2 ^ e) (2 ^ (52 - e)) (sum % 2 ^ 64 * 2 ^ 14 + t) (2 ^ 14 * turn + b + d) (sum / 2 ^ 64) unit h
      ∙ ap (λ (x : ℕ). x % 2 ^ 65) (sym g)

-- the raw base of a word
abbrev raw_of : ℕ → ℕ
raw_of w = raw_base_at (cut_exponent_of w) (b_of w) (address_of w)

sail_base_65-is : (w : ℕ) → sail_base_65 w ≡ raw_of w % 2 ^ 65
sail_base_65-is w =
    let b : b_of w ≡ (b_of w + 0) % 2 ^ 14 = omega (arith, b_of-lt w) in
    ap (λ (x : ℕ). sail_bound (cut_exponent_of w) (b_of w) (address_of w) x) b
    ∙ sail_bound_is (cut_exponent_of w) (b_of w) (address_of w) (exponent-le w) (b_of-lt w) 0 (omega arith)
    ∙ (let f : (raw_of w + 0 * unit_of w) % 2 ^ 65 ≡ raw_of w % 2 ^ 65 = omega arith in f)

sail_top_65-is : (w : ℕ)
    → sail_bound (cut_exponent_of w) (b_of w) (address_of w) (sail_mantissa (b_of w) (t_of w) (ie_of w)) ≡ (raw_of w + length_of w) % 2 ^ 65
sail_top_65-is w =
    rw (sail_mantissa-is (b_of w) (t_of w) (ie_of w) (b_of-lt w) (t_of-lt w), length_is w)
    (sail_bound_is (cut_exponent_of w) (b_of w) (address_of w) (exponent-le w) (b_of-lt w) (span_at (b_of w) (t_of w) (ie_of w))
    (span_at-lt (b_of w) (t_of w) (ie_of w)))

pub sail_base-is : (w : ℕ) → sail_base w ≡ base_of w
unfolding sail_base base_of
sail_base-is w = rw (sail_base_65-is w) (omega arith)

pub sail_top-is : (w : ℕ) → sail_top w ≡ top_of w
unfolding sail_top top_of
sail_top-is w =
    rw (sail_base_65-is w, sail_top_65-is w)
    (elim (cases_lt 50 (cut_exponent_of w)) [
      | inl far ↦ sail_corrected_top-high (cut_exponent_of w) (raw_of w % 2 ^ 65) ((raw_of w + length_of w) % 2 ^ 65) far
          ∙ sym (top_at-uncorrected (cut_exponent_of w) (raw_of w) (length_of w) far)
      | inr near ↦ sail_corrected_top-low (cut_exponent_of w) (raw_of w) (length_of w) near (length_of-lt w near)
          ∙ sym (top_at-corrected (cut_exponent_of w) (raw_of w) (length_of w) near)
    ])
