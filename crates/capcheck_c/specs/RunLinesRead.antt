-- What reading a line of a run log gives (this profile's own, as are all below).
use Rattle.std.specs.Prelude.{◌≡◌, ◌≢◌, ℕ, ◌+◌, ◌*◌, true, false, List, length}
use Rattle.cap_word.specs.declared.word.{Cap.Cap, Word.Word}
use Rattle.cap_log.specs.Parts.{Begins, BeginsWithNone}
use Rattle.cap_log.specs.declared.lines.Line.TheVariants as usual
use Rattle.cap_log.specs.declared.lines.Place.TheVariants.{Register as UsualRegister, Granule as UsualGranule}
use Rattle.cap_run_log.specs.declared.lines.{RunLine.RunLine, RunPlace.RunPlace, RunStep.RunStep}
use Rattle.cap_run_log.specs.declared.lines.RunPlace.TheVariants.{General, Granule, Special}
use Rattle.cap_run_log.specs.declared.lines.RunLine.TheVariants as lines
use Rattle.cap_run_log.specs.declared.lines.RunStep.TheVariants as steps
use Rattle.cap_run_log.specs.RunLines.{IsRunLineInRange, run_spelling}
use Rattle.cap_halves.specs.{declared.values.PassedPlace.PassedPlace, Passed.{cap_of, no_cap}}
use Rattle.cap_halves.specs.PassedRuns.{passed_nowhere, passed_place, passed_register}
use Rattle.cap_halves.specs.declared.values.PassedRunLine.{PassedRunLine}
use Rattle.capcheck_c.specs.LinesRead.{HasNumbers, IsLineRead}

-- what was read beside the numbers of other logs' lines: where the line writes and reads, and a second capability
pub record HasPlaces (target source : PassedPlace) (second : Cap) (read : PassedRunLine) : Type 0 where
  pub target_is : read.target ≡ target
  pub source_is : read.source ≡ source
  pub second_is : cap_of read.second ≡ second

-- neither
abbrev pub HasNoPlaces : PassedRunLine → Type 0
HasNoPlaces read = HasPlaces passed_nowhere passed_nowhere no_cap read

abbrev pub tagged_word : Word → Cap
tagged_word word = record { tag = true; word = word }

-- what was read is this root
abbrev pub IsRootRead : RunPlace → Word → PassedRunLine → Type 0
IsRootRead (General number) word read = IsLineRead (usual.Root (UsualRegister number) word) read.line
IsRootRead (Granule granule) word read = IsLineRead (usual.Root (UsualGranule granule) word) read.line
IsRootRead (Special number) word read = HasNumbers 72 number 0 0 0 (tagged_word word) read.line

-- what was read is this step
abbrev pub IsRunStepRead : RunStep → PassedRunLine → Type 0
IsRunStepRead (steps.Derive step) read =
    HasNumbers 64 0 0 0 0 step.result read.line × HasPlaces (passed_register step.target) (passed_register step.source) no_cap read
IsRunStepRead (steps.Exchange step) read =
    HasNumbers 65 step.target step.source 0 step.special step.result read.line
    × HasPlaces passed_nowhere passed_nowhere step.special_result read
IsRunStepRead (steps.Invoke step) read =
    HasNumbers 66 0 step.code step.datum 0 (tagged_word step.code_word) read.line
    × HasPlaces passed_nowhere passed_nowhere (tagged_word step.datum_word) read
IsRunStepRead (steps.Drop place) read =
    HasNumbers 67 0 0 0 0 no_cap read.line × HasPlaces (passed_place place) passed_nowhere no_cap read
IsRunStepRead (steps.Fill granule word) read =
    HasNumbers 68 0 0 0 (16 * granule) (record { tag = false; word = word }) read.line × HasNoPlaces read
IsRunStepRead (steps.Object register) read = HasNumbers 69 0 register 0 0 no_cap read.line × HasNoPlaces read
IsRunStepRead (steps.Widen register number) read = HasNumbers 69 0 register 0 number no_cap read.line × HasNoPlaces read
IsRunStepRead (steps.FreeOwner register) read = HasNumbers 70 0 register 0 0 no_cap read.line × HasNoPlaces read
IsRunStepRead (steps.FreeNumber number) read = HasNumbers 70 0 0 0 number no_cap read.line × HasNoPlaces read

-- what was read is this line
abbrev pub IsRunLineRead : RunLine → PassedRunLine → Type 0
IsRunLineRead lines.Version read = HasNumbers 71 0 0 0 1 no_cap read.line × HasNoPlaces read
IsRunLineRead (lines.Plain version) read = IsLineRead (usual.Version version) read.line × HasNoPlaces read
IsRunLineRead (lines.Mode mode) read = IsLineRead (usual.Mode mode) read.line × HasNoPlaces read
IsRunLineRead (lines.Root place word) read = IsRootRead place word read × HasPlaces (passed_place place) passed_nowhere no_cap read
IsRunLineRead (lines.Hart hart) read = HasNumbers 73 0 0 0 hart no_cap read.line × HasNoPlaces read
IsRunLineRead (lines.Step step) read = IsLineRead (usual.Step step) read.line × HasNoPlaces read
IsRunLineRead (lines.Run step) read = IsRunStepRead step read
IsRunLineRead (lines.End steps) read = IsLineRead (usual.End steps) read.line × HasNoPlaces read

-- what is read at the front of bytes: the line of a run log that they begin with, with its line feed, and its length; or
-- that they begin with none
pub record ReadsRunFront (bytes : List ℕ) (read : PassedRunLine) : Type 0 where
  pub line : (line : RunLine) (rest : List ℕ) → Begins IsRunLineInRange run_spelling 10 bytes line rest
      → IsRunLineRead line read × (read.line.length ≡ length (run_spelling line) + 1)
  pub kind : read.line.kind ≢ 0 → (line : RunLine) × (rest : List ℕ) × Begins IsRunLineInRange run_spelling 10 bytes line rest
  pub none : BeginsWithNone IsRunLineInRange run_spelling 10 bytes
      → HasNumbers 0 0 0 0 0 no_cap read.line × (read.line.length ≡ 0) × HasNoPlaces read
