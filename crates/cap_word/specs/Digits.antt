-- Numbers in hexadecimal, as fixed numbers of lower-case digits.
use Rattle.std.specs.Prelude.{◌≡◌, ℕ, suc, zero, ◌/◌, ◌%◌, ◌^◌, ◌≤◌, ◌⊎◌, List, [], ◌∷◌, length, All, slice_index}
use Rattle.std.specs.Prelude.{codes}

-- the lower-case digit of a number below 16 (this profile's own: the text of words, addresses and bytes)
abbrev pub hex_digit : ℕ → ℕ
hex_digit d = slice_index (codes "0123456789abcdef") d

-- the last k hexadecimal digits of n, lower case, the most significant first (this profile's own)
unfoldable pub hex_digits : ℕ → ℕ → List ℕ
hex_digits zero n = []
hex_digits (suc k) n = slice_index (codes "0123456789abcdef") (n / 16 ^ k % 16) ∷ hex_digits k n

-- a byte is one of `0` to `9`, which are 48 to 57, or `a` to `f`, which are 97 to 102
abbrev pub IsHexDigit : ℕ → Type 0
IsHexDigit byte = ((48 ≤ byte) × (byte ≤ 57)) ⊎ ((97 ≤ byte) × (byte ≤ 102))

-- a text has k bytes, and each is a lower-case digit
abbrev pub AreHexDigits : ℕ → List ℕ → Type 0
AreHexDigits k text = (length text ≡ k) × All IsHexDigit text
