-- The lines of a report, the words of a line, and the text of a string of JSON. All of it is this profile's own, but for
-- how a string is written, which is that of RFC 8259.
use Rattle.std.specs.Prelude.{ℕ, Bool, true, false, ◌==◌, ◌||◌, if◌then◌else◌, List, [], ◌∷◌, flat_map}

-- the bytes before the first of a kind, all if there is none
unfoldable pub upto : ℕ → List ℕ → List ℕ
upto end [] = []
upto end (byte ∷ bytes) = if byte == end then [] else byte ∷ upto end bytes

-- the bytes after it, none if there is none
unfoldable pub past : ℕ → List ℕ → List ℕ
past end [] = []
past end (byte ∷ bytes) = if byte == end then bytes else past end bytes

-- a byte more at the front of the first line
abbrev pub in_first : ℕ → List (List ℕ) → List (List ℕ)
in_first byte [] = (byte ∷ []) ∷ []
in_first byte (line ∷ lines) = (byte ∷ line) ∷ lines

-- the lines of a text, without the line feeds that end them
unfoldable pub lines_of : List ℕ → List (List ℕ)
lines_of [] = []
lines_of (byte ∷ bytes) = if byte == 10 then [] ∷ lines_of bytes else in_first byte (lines_of bytes)

-- a line begins with a name
unfoldable pub begins : List ℕ → List ℕ → Bool
begins [] line = true
begins (first ∷ name) [] = false
begins (first ∷ name) (byte ∷ line) = if first == byte then begins name line else false

-- a byte in a string: a backslash comes before a quotation mark and before a backslash
abbrev pub escaped_byte : ℕ → List ℕ
escaped_byte byte = if byte == 34 || byte == 92 then 92 ∷ byte ∷ [] else byte ∷ []

-- the text of a string
abbrev pub escaped : List ℕ → List ℕ
escaped bytes = flat_map escaped_byte bytes
