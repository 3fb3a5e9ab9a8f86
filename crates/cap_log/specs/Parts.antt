-- What a reader of a part of a line answers and a writer writes, and the parts themselves. All of it is this profile's
-- own.
use Rattle.std.specs.Prelude.{◌≡◌, ◌≢◌, ℕ, ◌*◌, ◌^◌, ◌<◌, ◌≤◌, List, [], ◌∷◌, ◌++◌, length, take, Option}
use Rattle.std.specs.{Prelude.{Bool, true, false, Some, None, All, codes, decimal, slice_index}, List.join_with_byte}
use Rattle.std.specs.Str.Parse.{AllDigits, digits_value}
use Rattle.cap_word.specs.{declared.word.Cap.Cap, Digits.hex_digits}
use Rattle.cap_log.specs.{declared.{kinds.{Head.Head, Step.Step}, lines.{Line.Line, Mode.Mode}}, Heads.head_spelling}
use Rattle.cap_log.specs.{Lines.{IsInRange, IsStepInRange, result_words, spelling, tag_spelling}, Ranges.Datum}

-- the value in range whose spelling the bytes are, or none where they are no such value's
abbrev pub ReadsAs : {A : Type 0} → (A → Type 0) → (A → List ℕ) → List ℕ → Option A → Type 0
ReadsAs {A} Fits spelled bytes None = (a : A) → Fits a → bytes ≡ spelled a → ⊥
ReadsAs {A} Fits spelled bytes (Some a) = Fits a × (bytes ≡ spelled a)

-- each mode has a name
abbrev pub IsMode : Mode → Type 0
IsMode mode = Unit {0}

-- no byte is this one
abbrev pub Lacks : ℕ → List ℕ → Type 0
Lacks c bytes = All (λ b. b ≢ c) bytes

-- no byte is a space
abbrev pub HasNoSpace : List ℕ → Type 0
HasNoSpace bytes = Lacks 32 bytes

-- a byte that ends a part: a space, or a control byte such as a line feed
abbrev pub IsEnd : ℕ → Type 0
IsEnd end = end ≤ 32

-- the bytes are a value's spelling, the byte that ends it, and a rest
abbrev pub Begins : {A : Type 0} → (A → Type 0) → (A → List ℕ) → ℕ → List ℕ → A → List ℕ → Type 0
Begins Fits spelled end bytes value rest = Fits value × (bytes ≡ spelled value ++ end ∷ rest)

-- no value in range stands at the front of the bytes with the byte that ends it
abbrev pub BeginsWithNone : {A : Type 0} → (A → Type 0) → (A → List ℕ) → ℕ → List ℕ → Type 0
BeginsWithNone {A} Fits spelled end bytes = (value : A) (rest : List ℕ) → Begins Fits spelled end bytes value rest → ⊥

-- behind a head and its space stands such a part, in each line that begins with them
pub record StandsBehind {A : Type 0} (head : Head) (Fits : A → Type 0) (spelled : A → List ℕ) : Type 0 where
  pub part_of : (line : Line) (text : List ℕ) → IsInRange line → spelling line ≡ head_spelling head ++ 32 ∷ text
      → (value : A) × Fits value × (text ≡ spelled value)

-- what numbers make of a step's operands, in range or not, by the step that operands are: these, where the step is in
-- range, or none
abbrev pub IsMade : {A : Type 0} → (A → Step) → A → Option A → Type 0
IsMade step_of operands None = ¬ IsStepInRange (step_of operands)
IsMade step_of operands (Some made) = IsStepInRange (step_of operands) × (made ≡ operands)

-- the bytes do not begin with this text and the byte that ends it
abbrev pub BeginsWithout : List ℕ → ℕ → List ℕ → Type 0
BeginsWithout text end bytes = (rest : List ℕ) → bytes ≡ text ++ end ∷ rest → ⊥

-- two parts, each in range
abbrev pub FitBoth : {A B : Type 0} → (A → Type 0) → (B → Type 0) → A × B → Type 0
FitBoth P Q pair = P pair.0 × Q pair.1

-- their spelling: the first, a space, the second
abbrev pub spaced : {A B : Type 0} → (A → List ℕ) → (B → List ℕ) → A × B → List ℕ
spaced first second pair = first pair.0 ++ 32 ∷ second pair.1

-- a number from a least one on, below a bound
abbrev pub IsFrom : ℕ → ℕ → ℕ → Type 0
IsFrom least bound n = (least ≤ n) × (n < bound)

-- a number that a decimal of a line spells
abbrev pub IsCount : ℕ → Type 0
IsCount n = n < 2 ^ 32

-- the number of the digits at the front of the bytes, which are so many: as many as are asked for, or all that stand
-- there
pub record IsFrontNumber (most : ℕ) (bytes : List ℕ) (value count : ℕ) : Type 0 where
  pub few : count ≤ most
  pub inside : count ≤ length bytes
  pub digits : AllDigits 10 (take count bytes)
  pub value_is : value ≡ digits_value 10 (take count bytes)
  pub stops : count < most → count < length bytes → 48 ≤ slice_index bytes count → slice_index bytes count ≤ 57 → ⊥

-- the result at the end of a step
abbrev pub result_spelling : Cap → List ℕ
result_spelling result = join_with_byte 32 (result_words result)

-- what stands before the digits of a result with this tag
abbrev pub result_mark : Bool → List ℕ
result_mark tag = codes "= " ++ (tag_spelling tag ++ 32 ∷ [])

-- what stands between the size and the value of a load, or of a store, behind a space
abbrev pub value_mark : Bool → List ℕ
value_mark true = codes "= "
value_mark false = []

-- the end of a load or a store: its size, an equals sign where it is a load, and its value
abbrev pub accessed_spelling : Bool → Datum → List ℕ
accessed_spelling is_load datum = decimal datum.size ++ 32 ∷ (value_mark is_load ++ hex_digits (2 * datum.size) datum.value)
