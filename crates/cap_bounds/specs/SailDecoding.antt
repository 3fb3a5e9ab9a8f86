-- How the Sail model of CHERI-RISC-V decodes bounds, step by step, by shifts, comparisons and corrections
-- (Sail CHERI-RISC-V: `capBitsToCapability`, `getCapBoundsBits`; the names of the steps are the model's).
-- Each value is its bits as a number. A difference that may be below 0 is given the modulus first. The
-- bounds of this project are those of a window: that these steps find them is a law, proved on `bounds`.
use Rattle.std.specs.Prelude.{ℕ, ◌+◌, ◌-◌, ◌*◌, ◌/◌, ◌%◌, ◌^◌, Bool, nat_lt, ◌&&◌, if◌then◌else◌}
use Rattle.cap_word.specs.Fields.{bit_of, ie_of, b_of, t_of, address_of}
use Rattle.cap_bounds.specs.Bounds.{cut_exponent_of}

-- 1 where x is below y, else 0
unfoldable pub below_bit : ℕ → ℕ → ℕ
below_bit x y = bit_of (nat_lt x y)

-- T: its low twelve bits are the word's, and the two above them are those of B, plus the carry, plus IE,
-- modulo 4 (`capBitsToCapability`)
abbrev pub sail_mantissa : ℕ → ℕ → Bool → ℕ
sail_mantissa b low ie = (b / 2 ^ 12 + below_bit low (b % 2 ^ 12) + bit_of ie) % 4 * 2 ^ 12 + low

-- a3: the three bits of the address that are as high as the three highest bits of B and of T
abbrev pub sail_a3 : ℕ → ℕ → ℕ
sail_a3 e address = address / 2 ^ (e + 11) % 8

-- aTop: the bits of the address above those
abbrev pub sail_a_top : ℕ → ℕ → ℕ
sail_a_top e address = address / 2 ^ (e + 14)

-- B3 or T3: the three highest bits of B or of T
abbrev pub sail_high_three : ℕ → ℕ
sail_high_three mantissa = mantissa / 2 ^ 11

-- R3: B3 less 1, modulo 8
abbrev pub sail_r3 : ℕ → ℕ
sail_r3 b = (sail_high_three b + 7) % 8

-- the base or the top as it is put together, of the mantissa B or T: aTop, plus bHi or tHi, less aHi, in
-- 64 bits, then the mantissa, then e zeros, all of it cut to 65 bits
abbrev pub sail_bound : ℕ → ℕ → ℕ → ℕ → ℕ
sail_bound e b address mantissa =
    let a_hi = below_bit (sail_a3 e address) (sail_r3 b) in
    let mantissa_hi = below_bit (sail_high_three mantissa) (sail_r3 b) in
    let corrected = (sail_a_top e address + mantissa_hi + 2 ^ 64 - a_hi) % 2 ^ 64 in
    (corrected * 2 ^ 14 + mantissa) * 2 ^ e % 2 ^ 65

-- whether base and top are too far apart: bits 64..63 of the top, less bit 63 of the base, modulo 4,
-- exceed 1
abbrev pub sail_too_far : ℕ → ℕ → Bool
sail_too_far base top = nat_lt 1 ((top / 2 ^ 63 + 4 - base / 2 ^ 63 % 2) % 4)

-- the top, with bit 64 inverted where it is too far from the base, below exponent 51 (this limit is the
-- profile's own)
abbrev pub sail_corrected_top : ℕ → ℕ → ℕ → ℕ
sail_corrected_top e base top = if nat_lt e 51 && sail_too_far base top then (top + 2 ^ 64) % 2 ^ 65 else top

-- the base that the model decodes of a word, before it is cut to 64 bits
abbrev pub sail_base_65 : ℕ → ℕ
sail_base_65 w = sail_bound (cut_exponent_of w) (b_of w) (address_of w) (b_of w)

-- the base that the model decodes of a word
unfoldable pub sail_base : ℕ → ℕ
sail_base w = sail_base_65 w % 2 ^ 64

-- the top that the model decodes of a word
unfoldable pub sail_top : ℕ → ℕ
sail_top w = sail_corrected_top (cut_exponent_of w) (sail_base_65 w)
    (sail_bound (cut_exponent_of w) (b_of w) (address_of w) (sail_mantissa (b_of w) (t_of w) (ie_of w)))
