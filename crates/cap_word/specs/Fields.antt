-- The fields of a word: quotients and remainders of the number by powers of two, bit 0 the lowest
-- (UCAM-CL-TR-987, the section on the compressed capability format).
use Rattle.std.specs.Prelude.{ℕ, ◌+◌, ◌*◌, ◌/◌, ◌%◌, ◌^◌, Bool, true, false, ◌==◌, if◌then◌else◌}

-- a flag as a number
abbrev pub bit_of : Bool → ℕ
bit_of true = 1
bit_of false = 0

-- bits 127..112: the permissions
abbrev pub perms_of : ℕ → ℕ
perms_of w = w / 2 ^ 112 % 2 ^ 16

-- bits 111..110: reserved
abbrev pub reserved_of : ℕ → ℕ
reserved_of w = w / 2 ^ 110 % 2 ^ 2

-- bit 109: the capability-mode flag
abbrev pub flag_of : ℕ → Bool
flag_of w = w / 2 ^ 109 % 2 == 1

-- bits 108..91: the object type
abbrev pub otype_of : ℕ → ℕ
otype_of w = w / 2 ^ 91 % 2 ^ 18

-- bit 90: the internal exponent bit, IE
abbrev pub ie_of : ℕ → Bool
ie_of w = w / 2 ^ 90 % 2 == 1

-- bits 89..78: the T field as it stands
abbrev pub t_field : ℕ → ℕ
t_field w = w / 2 ^ 78 % 2 ^ 12

-- bits 77..64: the B field as it stands
abbrev pub b_field : ℕ → ℕ
b_field w = w / 2 ^ 64 % 2 ^ 14

-- bits 63..0: the address
abbrev pub address_of : ℕ → ℕ
address_of w = w % 2 ^ 64

-- E: 0 if IE is 0; otherwise six bits, the low three of the T field above the low three of the B field
abbrev pub e_of : ℕ → ℕ
e_of w = if ie_of w then t_field w % 8 * 8 + b_field w % 8 else 0

-- B: the B field, with zeros in place of the bits of E
abbrev pub b_of : ℕ → ℕ
b_of w = if ie_of w then b_field w / 8 * 8 else b_field w

-- the low twelve bits of T: the T field, with zeros in place of the bits of E
abbrev pub t_of : ℕ → ℕ
t_of w = if ie_of w then t_field w / 8 * 8 else t_field w

-- the word that has these fields: permissions, reserved, flag, object type, IE, E, B, T's low twelve
-- bits, address
abbrev pub joined_word : ℕ → ℕ → Bool → ℕ → Bool → ℕ → ℕ → ℕ → ℕ → ℕ
joined_word perms reserved flag otype ie e b t address =
    perms * 2 ^ 112 + reserved * 2 ^ 110 + bit_of flag * 2 ^ 109 + otype * 2 ^ 91 + bit_of ie * 2 ^ 90 + (t + e / 8) * 2 ^ 78 +
    (b + e % 8) * 2 ^ 64 + address
