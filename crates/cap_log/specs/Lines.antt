-- The grammar of a log's lines: what each line is spelled as, and which lines have a spelling. All of it is this
-- profile's own.
use Rattle.std.specs.Prelude.{◌≡◌, ℕ, ◌+◌, ◌-◌, ◌*◌, ◌^◌, ◌<◌, ◌≤◌, Bool, if◌then◌else◌, ◌⊎◌, List, [], ◌∷◌, ◌++◌}
use Rattle.std.specs.{Prelude.{codes, decimal, length, take, drop}, Fmt.signed_decimal, List.join_with_byte}
use Rattle.cap_word.specs.{declared.word.Cap.Cap, Digits.hex_digits}
pub use Rattle.cap_log.specs.Ranges.{IsRegister, IsTarget, IsOffset, IsDataSize, IsDataValue}
use Rattle.cap_log.specs.declared.kinds.Step.{Step, TheVariants.{Move, ClearTag, SetBounds, SetBoundsExact, SetAddr}}
use Rattle.cap_log.specs.declared.kinds.Step.TheVariants.{AndPerm, Seal, Unseal, LoadCap, StoreCap, Load, Store}
use Rattle.cap_log.specs.declared.lines.Line.{Line, TheVariants.{Version, Mode as Moding, Root, Step as Stepping, End}}
use Rattle.cap_log.specs.declared.lines.{Mode.{Mode, TheVariants.{Strict, Clear}}, Place.Place}
use Rattle.cap_log.specs.{declared.lines.Place.TheVariants.{Register, Granule}, Ranges.IsDatum}

-- a register: c and its number in decimal
abbrev pub register_spelling : ℕ → List ℕ
register_spelling n = codes "c" ++ decimal n

-- a place that can hold a root: a register that is written, or a granule of a memory of 2^64 bytes
abbrev pub IsPlace : Place → Type 0
IsPlace (Register n) = IsTarget n
IsPlace (Granule n) = n < 2 ^ 60

-- a granule is spelled by the address of its first byte
abbrev pub place_spelling : Place → List ℕ
place_spelling (Register n) = register_spelling n
place_spelling (Granule n) = codes "@" ++ hex_digits 16 (16 * n)

-- the number of a word
abbrev pub IsWord : ℕ → Type 0
IsWord n = n < 2 ^ 128

-- a length, an address or a mask
abbrev pub IsNumber : ℕ → Type 0
IsNumber n = n < 2 ^ 64

-- the versions of the log
abbrev pub IsVersion : ℕ → Type 0
IsVersion version = (version ≡ 1) ⊎ (version ≡ 2)

-- a mode's name
abbrev pub mode_spelling : Mode → List ℕ
mode_spelling Strict = codes "strict"
mode_spelling Clear = codes "clear"

-- a tag: one digit
abbrev pub tag_spelling : Bool → List ℕ
tag_spelling tag = if tag then codes "1" else codes "0"

-- the result that a step records: an equals sign, its tag and its word
abbrev pub result_words : Cap → List (List ℕ)
result_words result = codes "=" ∷ tag_spelling result.tag ∷ hex_digits 32 result.word.0 ∷ []

-- the words of a step that writes a register: its name, that register, the one that it reads first, what else it takes,
-- its result
abbrev pub register_words : List ℕ → ℕ → ℕ → List (List ℕ) → Cap → List (List ℕ)
register_words name target source more result = name ∷ register_spelling target ∷ register_spelling source ∷ more ++ result_words result

-- the words of a step
abbrev pub step_words : Step → List (List ℕ)
step_words (Move step) = register_words (codes "move") step.target step.source [] step.result
step_words (ClearTag step) = register_words (codes "cleartag") step.target step.source [] step.result
step_words (SetBounds step) = register_words (codes "setbounds") step.target step.source (hex_digits 16 step.number ∷ []) step.result
step_words (SetBoundsExact step) =
    register_words (codes "setboundsexact") step.target step.source (hex_digits 16 step.number ∷ []) step.result
step_words (SetAddr step) = register_words (codes "setaddr") step.target step.source (hex_digits 16 step.number ∷ []) step.result
step_words (AndPerm step) = register_words (codes "andperm") step.target step.source (hex_digits 16 step.number ∷ []) step.result
step_words (Seal step) = register_words (codes "seal") step.target step.source (register_spelling step.authority ∷ []) step.result
step_words (Unseal step) = register_words (codes "unseal") step.target step.source (register_spelling step.authority ∷ []) step.result
step_words (LoadCap step) = register_words (codes "lc") step.target step.authority (signed_decimal step.offset ∷ []) step.result
step_words (StoreCap step) =
    codes "sc" ∷ register_spelling step.source ∷ register_spelling step.authority ∷ signed_decimal step.offset ∷ []
step_words (Load step) =
    codes "load" ∷ register_spelling step.authority ∷ signed_decimal step.offset ∷ decimal step.datum.size ∷ codes "=" ∷ hex_digits (2 * step.datum.size) step.datum.value ∷ []
step_words (Store step) =
    codes "store" ∷ register_spelling step.authority ∷ signed_decimal step.offset ∷ decimal step.datum.size ∷ hex_digits (2 * step.datum.size) step.datum.value ∷ []

-- the words of a line
abbrev pub line_words : Line → List (List ℕ)
line_words (Version version) = codes "capcheck" ∷ decimal version ∷ []
line_words (Moding mode) = codes "mode" ∷ mode_spelling mode ∷ []
line_words (Root place word) = codes "root" ∷ place_spelling place ∷ hex_digits 32 word.0 ∷ []
line_words (Stepping step) = step_words step
line_words (End steps) = codes "end" ∷ decimal steps ∷ []

-- the line's bytes, without its line feed: its words with a single space between each two
unfoldable pub spelling : Line → List ℕ
spelling line = join_with_byte 32 (line_words line)

-- the numbers of a step are in range: it writes c1 to c31, and reads c0 to c31
abbrev pub IsStepInRange : Step → Type 0
IsStepInRange (Move step) = IsTarget step.target × IsRegister step.source × IsWord step.result.word.0
IsStepInRange (ClearTag step) = IsTarget step.target × IsRegister step.source × IsWord step.result.word.0
IsStepInRange (SetBounds step) = IsTarget step.target × IsRegister step.source × IsNumber step.number × IsWord step.result.word.0
IsStepInRange (SetBoundsExact step) = IsTarget step.target × IsRegister step.source × IsNumber step.number × IsWord step.result.word.0
IsStepInRange (SetAddr step) = IsTarget step.target × IsRegister step.source × IsNumber step.number × IsWord step.result.word.0
IsStepInRange (AndPerm step) = IsTarget step.target × IsRegister step.source × IsNumber step.number × IsWord step.result.word.0
IsStepInRange (Seal step) = IsTarget step.target × IsRegister step.source × IsRegister step.authority × IsWord step.result.word.0
IsStepInRange (Unseal step) = IsTarget step.target × IsRegister step.source × IsRegister step.authority × IsWord step.result.word.0
IsStepInRange (LoadCap step) = IsTarget step.target × IsRegister step.authority × IsOffset step.offset × IsWord step.result.word.0
IsStepInRange (StoreCap step) = IsRegister step.source × IsRegister step.authority × IsOffset step.offset
IsStepInRange (Load step) = IsRegister step.authority × IsOffset step.offset × IsDatum step.datum
IsStepInRange (Store step) = IsRegister step.authority × IsOffset step.offset × IsDatum step.datum

-- the numbers of a line are in range
abbrev pub IsInRange : Line → Type 0
IsInRange (Version version) = IsVersion version
IsInRange (Moding mode) = Unit {0}
IsInRange (Root place word) = IsPlace place × IsWord word.0
IsInRange (Stepping step) = IsStepInRange step
IsInRange (End steps) = steps < 2 ^ 32

-- the bytes are the one spelling of this line
abbrev pub Spells : List ℕ → Line → Type 0
Spells bytes line = IsInRange line × (bytes ≡ spelling line)

-- the line and its line feed stand at the front of a buffer, count bytes; the rest is as it was; and the bytes before
-- the line feed spell this line and no other
pub record IsLineAt (line : Line) (old new : List ℕ) (count : ℕ) : Type 0 where
  pub ends : count ≡ length (spelling line) + 1
  pub fits : count ≤ 96
  pub written : take count new ≡ spelling line ++ 10 ∷ []
  pub rest : drop count new ≡ drop count old
  pub spells : Spells (take (count - 1) new) line
  pub reads_back : (other : Line) → Spells (take (count - 1) new) other → other ≡ line
