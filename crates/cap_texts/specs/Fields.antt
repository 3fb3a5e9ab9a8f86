-- The fields of a line, and the first of them that is wrong. All of it is this profile's own.
use Rattle.std.specs.Prelude.{◌≡◌, ◌==◌, if◌then◌else◌, ◌⊎◌, ℕ, ◌*◌, ◌^◌, ◌<◌, ◌≤◌, List, [], ◌∷◌, ◌++◌, Contains}
use Rattle.std.specs.{Prelude.{codes, decimal, ℤ}, Fmt.signed_decimal}
use Rattle.cap_word.specs.{declared.word.Word.Word, Digits.hex_digits}
use Rattle.cap_log.specs.Heads.{line_names}
use Rattle.cap_log.specs.declared.lines.{Mode.Mode as ModeOf, Place.Place as PlaceOf}
use Rattle.cap_log.specs.Lines.{IsPlace, IsWord, IsNumber, place_spelling, register_spelling, mode_spelling}
use Rattle.cap_log.specs.{Parts.{Begins, IsCount, IsMode}, Ranges.{IsOffset, IsRegisterFrom}}
use Rattle.cap_texts.specs.declared.tops.Top.{Top}
use Rattle.cap_texts.specs.declared.fields.Field.{Field, TheVariants.{LogName, HeapName, LogVersion, HeapVersion, Mode}}
use Rattle.cap_texts.specs.declared.fields.Field.TheVariants.{Place, Target, Register, Number, Top as TopField, Offset}
use Rattle.cap_texts.specs.declared.fields.Field.TheVariants.{Size, Equals, Value, Tag, Word as WordField, Count}

-- one of these digits, the byte that ends it, and a rest
abbrev pub StandsDigit : List ℕ → ℕ → List ℕ → List ℕ → Type 0
StandsDigit digits end bytes rest = (digit : ℕ) × Contains digits digit × (bytes ≡ digit ∷ end ∷ rest)

-- how many bytes a size's digit stands for
abbrev pub bytes_of_size : ℕ → ℕ
bytes_of_size digit = if digit == 49 then 1 else if digit == 50 then 2 else if digit == 52 then 4 else 8

-- two digits for each byte of a size, the byte that ends them, and a rest
abbrev pub StandsValue : ℕ → ℕ → List ℕ → List ℕ → Type 0
StandsValue size end bytes rest =
    (value : ℕ) × (value < 256 ^ bytes_of_size size) × (bytes ≡ hex_digits (2 * bytes_of_size size) value ++ end ∷ rest)

-- such a field stands at the front of the bytes with the byte that ends it, and a rest follows. The names of lines are
-- taken before
abbrev pub Stands : Field → ℕ → ℕ → List ℕ → List ℕ → Type 0
Stands LogName size end bytes rest = ⊥
Stands HeapName size end bytes rest = ⊥
Stands LogVersion size end bytes rest = StandsDigit (codes "12") end bytes rest
Stands HeapVersion size end bytes rest = StandsDigit (codes "1") end bytes rest
Stands Mode size end bytes rest = (mode : ModeOf) × Begins IsMode mode_spelling end bytes mode rest
Stands Place size end bytes rest = (place : PlaceOf) × Begins IsPlace place_spelling end bytes place rest
Stands Target size end bytes rest = (n : ℕ) × Begins (IsRegisterFrom 1) register_spelling end bytes n rest
Stands Register size end bytes rest = (n : ℕ) × Begins (IsRegisterFrom 0) register_spelling end bytes n rest
Stands Number size end bytes rest = (n : ℕ) × Begins IsNumber (hex_digits 16) end bytes n rest
Stands TopField size end bytes rest =
    (top : Top) × Begins (λ (t : Top). t.0 ≤ 2 ^ 64) (λ (t : Top). hex_digits 17 t.0) end bytes top rest
Stands Offset size end bytes rest = (z : ℤ) × Begins IsOffset signed_decimal end bytes z rest
Stands Size size end bytes rest = StandsDigit (codes "1248") end bytes rest
Stands Equals size end bytes rest = StandsDigit (codes "=") end bytes rest
Stands Value size end bytes rest = StandsValue size end bytes rest
Stands Tag size end bytes rest = StandsDigit (codes "01") end bytes rest
Stands WordField size end bytes rest =
    (word : Word) × Begins (λ (w : Word). IsWord w.0) (λ (w : Word). hex_digits 32 w.0) end bytes word rest
Stands Count size end bytes rest = (n : ℕ) × Begins IsCount decimal end bytes n rest

-- the byte that ends a field before these: a space, or the line feed behind the last
abbrev pub end_of : List Field → ℕ
end_of [] = 10
end_of (field ∷ fields) = 32

-- the digit of a size, once a field was taken
abbrev pub size_after : Field → ℕ → List ℕ → ℕ
size_after Size size (digit ∷ bytes) = digit
size_after field size bytes = size

-- each of these fields stands behind the one before it
abbrev pub AllStand : List Field → ℕ → List ℕ → Type 0
AllStand [] size bytes = Unit {0}
AllStand (field ∷ fields) size bytes =
    (rest : List ℕ) × Stands field size (end_of fields) bytes rest × AllStand fields (size_after field size bytes) rest

-- the first of these fields, left to right, that does not stand where it has to, with the byte that has to end it and
-- the bytes from there on
abbrev pub IsFirstWrong : List Field → ℕ → List ℕ → Field → ℕ → List ℕ → Type 0
IsFirstWrong [] size bytes wrong end from = ⊥
IsFirstWrong (field ∷ fields) size bytes wrong end from =
    (((rest : List ℕ) → Stands field size (end_of fields) bytes rest → ⊥) × (wrong ≡ field) × (end ≡ end_of fields) × (from ≡ bytes))
    ⊎ ((rest : List ℕ) × Stands field size (end_of fields) bytes rest
    × IsFirstWrong fields (size_after field size bytes) rest wrong end from)

-- what a field has to be, in words
abbrev pub expected_text : Field → List ℕ
expected_text LogName = line_names
expected_text HeapName = codes "root, malloc, free or end"
expected_text LogVersion = codes "the version, 1 or 2"
expected_text HeapVersion = codes "the version, 1"
expected_text Mode = codes "strict or clear"
expected_text Place = codes "a register, c1 to c31, or @ and an address of 16 lower-case hexadecimal digits, the last of them 0"
expected_text Target = codes "a register that is written, c1 to c31"
expected_text Register = codes "a register, c0 to c31"
expected_text Number = codes "16 lower-case hexadecimal digits"
expected_text TopField = codes "17 lower-case hexadecimal digits, at most 10000000000000000"
expected_text Offset = codes "an offset, -2048 to 2047"
expected_text Size = codes "a size, 1, 2, 4 or 8"
expected_text Equals = codes "an equals sign"
expected_text Value = codes "the value, 2 lower-case hexadecimal digits for each byte"
expected_text Tag = codes "the tag, 0 or 1"
expected_text WordField = codes "a word, 32 lower-case hexadecimal digits"
expected_text Count = codes "a count, in decimal"
