-- The lines of a text that names values, and those of a rounding.
use Rattle.std.specs.Prelude.{ℕ, Bool, if◌then◌else◌, List, [], ◌∷◌, ◌++◌, codes, decimal}
use Rattle.cap_word.specs.{Digits.hex_digits, Fields.bit_of}
use Rattle.cap_bounds.specs.declared.rounding.Rounded.{Rounded}

-- a line: a name, a space, a value and a line feed (this profile's own)
unfoldable pub text_line : List ℕ → List ℕ → List ℕ
text_line name value = name ++ codes " " ++ value ++ codes "\n"

-- a sentence, as the last line of a report (this profile's own)
unfoldable pub says_line : List ℕ → List ℕ
says_line sentence = codes "says " ++ sentence ++ codes "\n"

-- an answer in words (this profile's own)
abbrev pub yes_or_no : Bool → List ℕ
yes_or_no answer = if answer then codes "yes" else codes "no"

-- bytes as text: two digits for each (this profile's own)
unfoldable pub bytes_text : List ℕ → List ℕ
bytes_text [] = []
bytes_text (byte ∷ bytes) = hex_digits 2 byte ++ bytes_text bytes

-- five lines: the rounded bounds, the exponent bit and the exponent, and whether both bounds are the
-- requested ones (this profile's own)
abbrev pub round_lines : Rounded → List ℕ
round_lines rounded =
    text_line (codes "base") (hex_digits 16 rounded.base)
    ++ text_line (codes "top") (hex_digits 17 rounded.top)
    ++ text_line (codes "ie") (decimal (bit_of rounded.ie))
    ++ text_line (codes "e") (decimal rounded.e)
    ++ text_line (codes "exact") (yes_or_no rounded.exact)
