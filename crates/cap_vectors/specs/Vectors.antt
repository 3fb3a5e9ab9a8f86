-- The lines of a vector file: what a word decodes to, whether an address keeps a word's bounds, how a request is
-- rounded, and the bytes of a word in memory. All of it is this profile's own.
use Rattle.std.specs.Prelude.{◌≡◌, ℕ, ◌+◌, ◌^◌, ◌<◌, ◌≤◌, ◌↔◌, Bool, List, ◌++◌, length, All, IsTrue, codes, decimal}
use Rattle.cap_word.specs.{Digits.hex_digits, Memory.memory_of}
use Rattle.cap_bounds.specs.{Bounds.{base_of, top_of, IsSound}, Range.KeepsBounds}
use Rattle.cap_bounds.specs.Rounding.{rounded_base, rounded_top, rounded_ie, rounded_exponent, IsExact}
use Rattle.cap_log.specs.Lines.{tag_spelling}
use Rattle.cap_texts.specs.TextLines.{bytes_text}

-- a vector: operands, and what is said of them
pub data Vector : Type 0 where
  Bounds : (word base top : ℕ) (sound : Bool) → Vector
  Keeps : (word address : ℕ) (keeps : Bool) → Vector
  Round : (base size base_rounded top_rounded : ℕ) (ie : Bool) (e : ℕ) (exact : Bool) → Vector
  Memory : (word : ℕ) (bytes : List ℕ) → Vector

-- each number fits the digits that it is written with
abbrev pub IsVectorInRange : Vector → Type 0
IsVectorInRange (Bounds word base top sound) = (word < 2 ^ 128) × (base < 2 ^ 64) × (top < 2 ^ 68)
IsVectorInRange (Keeps word address keeps) = (word < 2 ^ 128) × (address < 2 ^ 64)
IsVectorInRange (Round base size base_rounded top_rounded ie e exact) =
    (base < 2 ^ 64) × (size < 2 ^ 64) × (base_rounded < 2 ^ 64) × (top_rounded < 2 ^ 68) × (e ≤ 52)
IsVectorInRange (Memory word bytes) = (word < 2 ^ 128) × (length bytes ≡ 16) × All (λ byte. byte < 256) bytes

-- what is said of the operands is so
abbrev pub Holds : Vector → Type 0
Holds (Bounds word base top sound) = (base ≡ base_of word) × (top ≡ top_of word) × (IsTrue sound ↔ IsSound word)
Holds (Keeps word address keeps) = IsTrue keeps ↔ KeepsBounds word address
Holds (Round base size base_rounded top_rounded ie e exact) =
    (base + size ≤ 2 ^ 64) × (base_rounded ≡ rounded_base base size) × (top_rounded ≡ rounded_top base size)
    × (ie ≡ rounded_ie size) × (e ≡ rounded_exponent base size) × (IsTrue exact ↔ IsExact base size)
Holds (Memory word bytes) = bytes ≡ memory_of word

-- a true vector
pub record IsTrueVector (vector : Vector) : Type 0 where
  pub in_range : IsVectorInRange vector
  pub holds : Holds vector

-- the one line of a vector, without its line feed
abbrev pub vector_spelling : Vector → List ℕ
vector_spelling (Bounds word base top sound) =
    codes "bounds " ++ hex_digits 32 word ++ codes " = " ++ hex_digits 16 base
    ++ codes " " ++ hex_digits 17 top ++ codes " " ++ tag_spelling sound
vector_spelling (Keeps word address keeps) =
    codes "keeps " ++ hex_digits 32 word ++ codes " " ++ hex_digits 16 address ++ codes " = " ++ tag_spelling keeps
vector_spelling (Round base size base_rounded top_rounded ie e exact) =
    codes "round " ++ hex_digits 16 base ++ codes " " ++ hex_digits 16 size ++ codes " = " ++ hex_digits 16 base_rounded ++ codes " "
    ++ hex_digits 17 top_rounded ++ codes " " ++ tag_spelling ie ++ codes " " ++ decimal e ++ codes " " ++ tag_spelling exact
vector_spelling (Memory word bytes) = codes "memory " ++ hex_digits 32 word ++ codes " = " ++ bytes_text bytes

-- the line is that of this vector, and the vector is true
pub record IsLineOf (line : List ℕ) (vector : Vector) : Type 0 where
  pub spelled : line ≡ vector_spelling vector
  pub true_vector : IsTrueVector vector

-- a line states something true
abbrev pub IsTrueLine : List ℕ → Type 0
IsTrueLine line = (vector : Vector) × IsLineOf line vector
