-- The parts of a sentence: numbers, ranges, and how far a range goes beyond bounds (this profile's own).
use Rattle.std.specs.Prelude.{ℕ, Bool, ◌-◌, ◌^◌, ◌==◌, ◌&&◌, nat_lt, if◌then◌else◌, List, [], ◌∷◌, ◌++◌, codes, decimal}
use Rattle.cap_word.specs.Digits.{hex_digits}

-- digits without the zeros before them
unfoldable pub without_zeros : List ℕ → List ℕ
without_zeros [] = []
without_zeros (digit ∷ []) = digit ∷ []
without_zeros (digit ∷ next ∷ digits) = if digit == 48 then without_zeros (next ∷ digits) else digit ∷ next ∷ digits

-- an address, or the top of a range
unfoldable pub number_text : ℕ → List ℕ
number_text number = codes "0x" ++ without_zeros (hex_digits 17 number)

-- a range: its first address, and that after its last one
unfoldable pub range_text : ℕ → ℕ → List ℕ
range_text base top = number_text base ++ codes " up to " ++ number_text top

-- so many bytes
abbrev pub size_text : ℕ → List ℕ
size_text size =
    if size == 1 then codes "one byte"
    else if nat_lt size (2 ^ 64) then decimal size ++ codes " bytes"
    else number_text size ++ codes " bytes"

-- how far the start of a range lies below that of the bounds
abbrev pub below_text : ℕ → ℕ → List ℕ
below_text base low = if nat_lt base low then codes "begins " ++ size_text (low - base) ++ codes " below " else []

-- how far the end of a range lies above that of the bounds
abbrev pub above_text : ℕ → ℕ → List ℕ
above_text top high = if nat_lt high top then codes "ends " ++ size_text (top - high) ++ codes " above " else []

-- a range goes beyond bounds at both ends
abbrev pub and_text : Bool → Bool → List ℕ
and_text below above = if below && above then codes "and " else []

-- how far a range goes beyond bounds
unfoldable pub beyond_text : ℕ → ℕ → ℕ → ℕ → List ℕ
beyond_text base top low high =
    below_text base low ++ and_text (nat_lt base low) (nat_lt high top) ++ above_text top high
