-- What reading a line gives (this profile's own, as are all below).
use Rattle.std.specs.Prelude.{◌≡◌, ◌≢◌, ℕ, ◌+◌, ◌*◌, ℤ, pos, true, List, [], ◌∷◌, drop, length}
use Rattle.cap_word.specs.declared.word.Cap.{Cap}
use Rattle.cap_log.specs.declared.{kinds.Step.Step, lines.{Line.Line, Mode.TheVariants.{Strict, Clear}}}
use Rattle.cap_log.specs.{declared.lines.Place.TheVariants.{Register, Granule}, Lines.{IsInRange, spelling}}
use Rattle.cap_log.specs.Parts.{Begins, BeginsWithNone}
use Rattle.cap_log.specs.declared.kinds.Step.TheVariants as steps
use Rattle.cap_log.specs.declared.lines.Line.TheVariants as lines
use Rattle.cap_halves.specs.Passed.{cap_of, no_cap}
use Rattle.cap_halves.specs.declared.values.PassedLine.{PassedLine}

-- what was read has this kind, these registers, and this number and capability
pub record IsOfKind (kind target source authority number : ℕ) (cap : Cap) (read : PassedLine) : Type 0 where
  pub kind_is : read.kind ≡ kind
  pub target_is : read.target ≡ target
  pub source_is : read.source ≡ source
  pub authority_is : read.authority ≡ authority
  pub number_is : read.number ≡ number
  pub cap_is : cap_of read.cap ≡ cap

-- and it is of no access
abbrev pub HasNumbers : ℕ → ℕ → ℕ → ℕ → ℕ → Cap → PassedLine → Type 0
HasNumbers kind target source authority number cap read =
    IsOfKind kind target source authority number cap read × (read.offset ≡ pos 0) × (read.size ≡ 0)

-- or of one at this offset, of so many bytes
abbrev pub ReadsAt : ℕ → ℕ → ℕ → ℕ → ℤ → ℕ → ℕ → Cap → PassedLine → Type 0
ReadsAt kind target source authority offset size number cap read =
    IsOfKind kind target source authority number cap read × (read.offset ≡ offset) × (read.size ≡ size)

-- what was read is this step
abbrev pub IsStepRead : Step → PassedLine → Type 0
IsStepRead (steps.Move step) read = HasNumbers 5 step.target step.source 0 0 step.result read
IsStepRead (steps.ClearTag step) read = HasNumbers 6 step.target step.source 0 0 step.result read
IsStepRead (steps.SetBounds step) read = HasNumbers 7 step.target step.source 0 step.number step.result read
IsStepRead (steps.SetBoundsExact step) read = HasNumbers 8 step.target step.source 0 step.number step.result read
IsStepRead (steps.SetAddr step) read = HasNumbers 9 step.target step.source 0 step.number step.result read
IsStepRead (steps.AndPerm step) read = HasNumbers 10 step.target step.source 0 step.number step.result read
IsStepRead (steps.Seal step) read = HasNumbers 11 step.target step.source step.authority 0 step.result read
IsStepRead (steps.Unseal step) read = HasNumbers 12 step.target step.source step.authority 0 step.result read
IsStepRead (steps.LoadCap step) read = ReadsAt 13 step.target 0 step.authority step.offset 0 0 step.result read
IsStepRead (steps.StoreCap step) read = ReadsAt 14 0 step.source step.authority step.offset 0 0 no_cap read
IsStepRead (steps.Load step) read = ReadsAt 15 0 0 step.authority step.offset step.datum.size step.datum.value no_cap read
IsStepRead (steps.Store step) read = ReadsAt 16 0 0 step.authority step.offset step.datum.size step.datum.value no_cap read

-- what was read is this line
abbrev pub IsLineRead : Line → PassedLine → Type 0
IsLineRead (lines.Version version) read = HasNumbers 1 0 0 0 version no_cap read
IsLineRead (lines.Mode Strict) read = HasNumbers 2 0 0 0 0 no_cap read
IsLineRead (lines.Mode Clear) read = HasNumbers 2 0 0 0 1 no_cap read
IsLineRead (lines.Root (Register register) word) read = HasNumbers 3 register 0 0 0 (record { tag = true; word = word }) read
IsLineRead (lines.Root (Granule granule) word) read = HasNumbers 4 0 0 0 (16 * granule) (record { tag = true; word = word }) read
IsLineRead (lines.Step step) read = IsStepRead step read
IsLineRead (lines.End steps) read = HasNumbers 17 0 0 0 steps no_cap read

-- what is read at the front of bytes: the line that they begin with, with its line feed, and its length; or that they
-- begin with none
pub record ReadsFront (bytes : List ℕ) (read : PassedLine) : Type 0 where
  pub line : (line : Line) (rest : List ℕ) → Begins IsInRange spelling 10 bytes line rest
      → IsLineRead line read × (read.length ≡ length (spelling line) + 1)
  pub kind : read.kind ≢ 0 → (line : Line) × (rest : List ℕ) × Begins IsInRange spelling 10 bytes line rest
  pub none : BeginsWithNone IsInRange spelling 10 bytes → HasNumbers 0 0 0 0 0 no_cap read × (read.length ≡ 0)

-- what was read, line after line, from the front of bytes, before this rest
abbrev pub ReadsLines : List ℕ → List PassedLine → List ℕ → Type 0
ReadsLines bytes [] rest = bytes ≡ rest
ReadsLines bytes (read ∷ reads) rest = (read.kind ≢ 0) × ReadsFront bytes read × ReadsLines (drop read.length bytes) reads rest
