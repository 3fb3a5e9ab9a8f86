-- How a request for bounds, a base and a size (their length), both below 2 ^ 64, is rounded to bounds that a word can
-- have (UCAM-CL-TR-987, CSetBounds; Sail CHERI-RISC-V: `setCapBounds`).
use Rattle.std.specs.Prelude.{◌≡◌, ℕ, zero, suc, ◌+◌, ◌-◌, ◌*◌, ◌/◌, ◌%◌, ◌^◌, ◌<◌, ◌≤◌, Bool, nat_lt, nat_le}
use Rattle.std.specs.Prelude.{if◌then◌else◌}
use Rattle.cap_word.specs.Fields.{bit_of}

-- the quotient n / v, rounded up
abbrev pub div_up : ℕ → ℕ → ℕ
div_up n v = (n + v - 1) / v

-- the number of units of 2 ^ (e + 3) that a request covers: the top rounded up, minus the base rounded down
abbrev pub units_of : ℕ → ℕ → ℕ → ℕ
units_of base size e = div_up (base + size) (2 ^ (e + 3)) - base / 2 ^ (e + 3)

-- e is the least of 0 to 52 at which a request covers fewer than 1024 units
pub record IsLeastExponent (base size e : ℕ) : Type 0 where
  pub within : e ≤ 52
  pub fits : units_of base size e < 1024
  pub least : (k : ℕ) → k < e → 1024 ≤ units_of base size k

-- the first exponent from e on, of count, at which a request covers fewer than 1024 units, otherwise the next; tied
-- to `IsLeastExponent` by `round`
unfoldable pub first_exponent : ℕ → ℕ → ℕ → ℕ → ℕ
first_exponent base size zero e = e
first_exponent base size (suc count) e = if nat_lt (units_of base size e) 1024 then e else first_exponent base size count (suc e)

-- a request needs IE: its size is at least 4096
abbrev pub rounded_ie : ℕ → Bool
rounded_ie size = nat_le 4096 size

-- the exponent of a request: the least one, or 0 if the size is below 4096
unfoldable pub rounded_exponent : ℕ → ℕ → ℕ
rounded_exponent base size = if rounded_ie size then first_exponent base size 52 0 else 0

-- the base of a request, rounded down; kept if the size is below 4096
unfoldable pub rounded_base : ℕ → ℕ → ℕ
rounded_base base size =
    let unit = 2 ^ (rounded_exponent base size + 3) in
    if rounded_ie size then base / unit * unit else base

-- the top of a request, rounded up; kept if the size is below 4096
unfoldable pub rounded_top : ℕ → ℕ → ℕ
rounded_top base size =
    let unit = 2 ^ (rounded_exponent base size + 3) in
    if rounded_ie size then div_up (base + size) unit * unit else base + size

-- B of a request: the rounded base in units of 2 ^ e, its low 14 bits
abbrev pub rounded_b : ℕ → ℕ → ℕ
rounded_b base size = rounded_base base size / 2 ^ rounded_exponent base size % 2 ^ 14

-- T of a request: the rounded top in units of 2 ^ e, its low 14 bits
abbrev pub rounded_t : ℕ → ℕ → ℕ
rounded_t base size = rounded_top base size / 2 ^ rounded_exponent base size % 2 ^ 14

-- a request needs no rounding: the rounded bounds are its own
abbrev pub IsExact : ℕ → ℕ → Type 0
IsExact base size = (rounded_base base size ≡ base) × (rounded_top base size ≡ base + size)

-- w with these IE, E, B, T (low twelve bits) and address; the bits above IE are kept
abbrev pub bounded_word : ℕ → Bool → ℕ → ℕ → ℕ → ℕ → ℕ
bounded_word w ie e b t address = w / 2 ^ 91 * 2 ^ 91 + bit_of ie * 2 ^ 90 + (t % 2 ^ 12 + e / 8) * 2 ^ 78 + (b + e % 8) * 2 ^ 64 + address

-- w with the rounding of a request, at the requested base
abbrev pub rounded_word : ℕ → ℕ → ℕ → ℕ
rounded_word w base size = bounded_word w (rounded_ie size) (rounded_exponent base size) (rounded_b base size)
    (rounded_t base size) base

-- IE, E, B and T are those of the rounding of a request
abbrev pub HasRounding : Bool → ℕ → ℕ → ℕ → ℕ → ℕ → Type 0
HasRounding ie e b t base size = (ie ≡ rounded_ie size) × (e ≡ rounded_exponent base size) × (b ≡ rounded_b base size)
    × (t ≡ rounded_t base size)

-- the unit of which the bases at which a size is exact are multiples (this profile's own)
unfoldable pub alignment_of : ℕ → ℕ
alignment_of size = if rounded_ie size then 2 ^ (rounded_exponent 0 size + 3) else 1
