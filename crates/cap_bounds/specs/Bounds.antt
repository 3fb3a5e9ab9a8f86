-- How the bounds of a word are decoded (UCAM-CL-TR-987, the section on CHERI Concentrate bounds; Sail
-- CHERI-RISC-V: `getCapBoundsBits`). Words are numbers below 2 ^ 128, and so are defined here by number.
--
-- A window may begin below 0, and so may what lies in it. All of these are given 2 ^ 66 higher, where
-- they are natural numbers: 2 ^ 66 is a multiple of every window's size, of 2 ^ 65 and of 2 ^ 64.
use Rattle.std.specs.Prelude.{◌≡◌, ℕ, ◌+◌, ◌-◌, ◌*◌, ◌/◌, ◌%◌, ◌^◌, ◌<◌, ◌≤◌, min, Bool, ◌==◌, ◌&&◌, nat_le}
use Rattle.std.specs.Prelude.{if◌then◌else◌}
use Rattle.cap_word.specs.Fields.{bit_of, ie_of, e_of, b_of, t_of, address_of}

-- x is the number from low to low + size - 1 that is congruent to value modulo size (this profile's own)
pub record IsResidue (low size value x : ℕ) : Type 0 where
  pub from : low ≤ x
  pub below : x < low + size
  pub congruent : x % size ≡ value % size

-- how far T lies above B, modulo 2 ^ 14: the length in units (this profile's own)
abbrev pub span_of : ℕ → ℕ → ℕ
span_of b t = (t + 2 ^ 14 - b) % 2 ^ 14

-- t is the mantissa T: it has these low twelve bits, and its span is 0 to 4095 if IE is 0, 4096 to 8191 if IE is 1
-- (Sail: `capBitsToCapability`)
pub record IsMantissa (b low : ℕ) (ie : Bool) (t : ℕ) : Type 0 where
  pub fits : t < 2 ^ 14
  pub low_bits : t % 2 ^ 12 ≡ low
  pub span_from : 2 ^ 12 * bit_of ie ≤ span_of b t
  pub span_below : span_of b t < 2 ^ 12 * bit_of ie + 2 ^ 12

-- closed form of the span, from B, the low twelve bits of T and IE; `bounds_are_unique` ties it to `IsMantissa`
abbrev pub span_at : ℕ → ℕ → Bool → ℕ
span_at b low ie = 2 ^ 12 * bit_of ie + (low + 2 ^ 14 - b) % 2 ^ 12

-- closed form of the mantissa T, from B, its low twelve bits and IE; `mantissa` ties it to `IsMantissa`
unfoldable pub mantissa_of : ℕ → ℕ → Bool → ℕ
mantissa_of b low ie = (b + span_at b low ie) % 2 ^ 14

-- the cut exponent: E, but at most 52 (Sail CHERI-RISC-V: `cap_max_E`)
abbrev pub cut_exponent_of : ℕ → ℕ
cut_exponent_of w = min (e_of w) 52

-- the unit of B and T: 2 to the cut exponent
abbrev pub unit_of : ℕ → ℕ
unit_of w = 2 ^ cut_exponent_of w

-- the size of a word's window: 2 ^ 14 units
abbrev pub window_size : ℕ → ℕ
window_size w = 2 ^ (cut_exponent_of w + 14)

-- first is where the window of w begins: the window holds the address, and first is congruent, modulo the window's
-- size, to (B's three high bits - 1) times 2 ^ 11 units (UCAM-CL-TR-987, the representable region of CHERI Concentrate)
pub record IsWindow (w first : ℕ) : Type 0 where
  pub begins : first ≤ address_of w + 2 ^ 66
  pub ends : address_of w + 2 ^ 66 < first + window_size w
  pub aligned : first % window_size w ≡ (b_of w / 2 ^ 11 + 7) % 8 * 2 ^ 11 * unit_of w

-- base and top are the bounds of word w: the numbers of its window that are congruent to B and to T units, the base
-- cut to 64 bits. Up to the cut exponent 50 the top follows the base within 2 ^ 64; from 51 on it is cut to 65 bits
-- (the cuts, and 51, are this profile's own)
pub record AreBounds (w base top : ℕ) : Type 0 where
  pub mantissa : ℕ
  pub first : ℕ
  pub raw_base : ℕ
  pub raw_top : ℕ
  pub mantissa_is : IsMantissa (b_of w) (t_of w) (ie_of w) mantissa
  pub window : IsWindow w first
  pub raw_base_is : IsResidue first (window_size w) (b_of w * unit_of w) raw_base
  pub raw_top_is : IsResidue first (window_size w) (mantissa * unit_of w) raw_top
  pub base_is : base ≡ raw_base % 2 ^ 64
  pub corrected_top : cut_exponent_of w ≤ 50 → IsResidue base (2 ^ 64) raw_top top
  pub uncorrected_top : 51 ≤ cut_exponent_of w → top ≡ raw_top % 2 ^ 65

-- how many windows of the word lie below that of an address, 2 ^ 66 higher, of the cut exponent, B and the address
abbrev pub windows_at : ℕ → ℕ → ℕ → ℕ
windows_at e b address = ((address + 2 ^ 66) / 2 ^ (e + 11) + 1 - b / 2 ^ 11) / 8

-- where the window of an address starts, 2 ^ 66 higher: closed form, tied to `IsWindow` by `reach`
abbrev pub window_start_at : ℕ → ℕ → ℕ → ℕ
window_start_at e b address = (8 * windows_at e b address + b / 2 ^ 11 - 1) * 2 ^ (e + 11)

-- the raw base, of the cut exponent, B and the address
unfoldable pub raw_base_at : ℕ → ℕ → ℕ → ℕ
raw_base_at e b address = (2 ^ 14 * windows_at e b address + b) * 2 ^ e

-- the top, of the cut exponent, the raw base and the length
unfoldable pub top_at : ℕ → ℕ → ℕ → ℕ
top_at e raw_base size = if nat_le e 50 then raw_base % 2 ^ 64 + size else (raw_base + size) % 2 ^ 65

-- the length: the span in units, 4096 or more with IE; tied to `IsMantissa` by `bounds_are_unique` (this profile's
-- own)
unfoldable pub length_of : ℕ → ℕ
length_of w = span_at (b_of w) (t_of w) (ie_of w) * unit_of w

-- the base: closed form, tied to `AreBounds` by `bounds`
unfoldable pub base_of : ℕ → ℕ
base_of w = raw_base_at (cut_exponent_of w) (b_of w) (address_of w) % 2 ^ 64

-- the top: closed form, tied to `AreBounds` by `bounds`
unfoldable pub top_of : ℕ → ℕ
top_of w = top_at (cut_exponent_of w) (raw_base_at (cut_exponent_of w) (b_of w) (address_of w)) (length_of w)

-- w is sound: base + length is the top, and the top is at most 2 ^ 64 (this profile's own)
abbrev pub IsSound : ℕ → Type 0
IsSound w = (base_of w + length_of w ≡ top_of w) × (top_of w ≤ 2 ^ 64)

-- w is sound, as a test (this profile's own)
abbrev pub is_sound : ℕ → Bool
is_sound w = base_of w + length_of w == top_of w && nat_le (top_of w) (2 ^ 64)

-- the bounds of the first pair lie inside those of the second
abbrev pub IsInside : ℕ → ℕ → ℕ → ℕ → Type 0
IsInside base top outer_base outer_top = (outer_base ≤ base) × (top ≤ outer_top)
