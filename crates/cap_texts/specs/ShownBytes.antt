-- Bytes as they are shown (this profile's own).
use Rattle.std.specs.Prelude.{ℕ, Bool, ◌==◌, ◌&&◌, not, nat_le, if◌then◌else◌, List, [], ◌∷◌, ◌++◌, flat_map, codes}
use Rattle.cap_word.specs.Digits.{hex_digits}
use Rattle.cap_texts.specs.TextLines.{text_line}

-- a byte that can be shown as it is: a character of ASCII, and no backslash
abbrev pub is_shown : ℕ → Bool
is_shown byte = nat_le 32 byte && nat_le byte 126 && not (byte == 92)

-- a byte as it is shown: any other as \x and two digits
abbrev pub shown_byte : ℕ → List ℕ
shown_byte byte = if is_shown byte then byte ∷ [] else codes "\\x" ++ hex_digits 2 byte

-- bytes as they are shown
abbrev pub shown : List ℕ → List ℕ
shown bytes = flat_map shown_byte bytes

-- a line of a log, shown behind its name
unfoldable pub shown_line : List ℕ → List ℕ
shown_line text = text_line (codes "line") (shown text)
