-- The grammar of a run log's lines: what each line is spelled as, and which lines have a spelling. All of it is this
-- profile's own.
use Rattle.std.specs.Prelude.{◌≡◌, ℕ, ◌+◌, ◌*◌, ◌^◌, ◌<◌, ◌≤◌, List, [], ◌∷◌, ◌++◌, codes, decimal, length, take, drop}
use Rattle.std.specs.List.{join_with_byte}
use Rattle.cap_word.specs.Digits.{hex_digits}
use Rattle.cap_log.specs.Lines.{IsRegister, IsStepInRange, IsTarget, IsVersion, IsWord, mode_spelling, register_spelling, result_words, step_words, tag_spelling}
use Rattle.cap_run_log.specs.declared.lines.{RunLine.RunLine, RunStep.RunStep, RunPlace.RunPlace, RunRegister.RunRegister}
use Rattle.cap_run_log.specs.declared.lines.RunLine.TheVariants as lines
use Rattle.cap_run_log.specs.declared.lines.RunStep.TheVariants as steps
use Rattle.cap_run_log.specs.declared.lines.RunPlace.TheVariants as places
use Rattle.cap_run_log.specs.declared.lines.RunRegister.TheVariants as registers
pub use Rattle.cap_run_log.specs.RunRanges.{IsGranule, IsHart, IsObjectNumber, IsRunRegister}

-- a special register: scr and its number in decimal
abbrev pub special_spelling : ℕ → List ℕ
special_spelling n = codes "scr" ++ decimal n

abbrev pub run_register_spelling : RunRegister → List ℕ
run_register_spelling (registers.General n) = register_spelling n
run_register_spelling (registers.Special n) = special_spelling n

-- a granule, by the address of its first byte
abbrev pub granule_spelling : ℕ → List ℕ
granule_spelling n = codes "@" ++ hex_digits 16 (16 * n)

-- a place that can hold a capability
abbrev pub run_place_spelling : RunPlace → List ℕ
run_place_spelling (places.General n) = register_spelling n
run_place_spelling (places.Special n) = special_spelling n
run_place_spelling (places.Granule n) = granule_spelling n

abbrev pub IsRunPlace : RunPlace → Type 0
IsRunPlace (places.General n) = IsTarget n
IsRunPlace (places.Special n) = IsRegister n
IsRunPlace (places.Granule n) = IsGranule n

-- the words of a step that only runs have
abbrev pub run_step_words : RunStep → List (List ℕ)
run_step_words (steps.Derive step) =
    codes "derive" ∷ run_register_spelling step.target ∷ run_register_spelling step.source ∷ result_words step.result
run_step_words (steps.Exchange step) =
    codes "exchange" ∷ register_spelling step.target ∷ register_spelling step.source ∷ special_spelling step.special ∷ codes "="
    ∷ tag_spelling step.result.tag ∷ hex_digits 32 step.result.word.0
    ∷ tag_spelling step.special_result.tag ∷ hex_digits 32 step.special_result.word.0 ∷ []
run_step_words (steps.Invoke step) =
    codes "invoke" ∷ register_spelling step.code ∷ register_spelling step.datum ∷ codes "="
    ∷ hex_digits 32 step.code_word.0 ∷ hex_digits 32 step.datum_word.0 ∷ []
run_step_words (steps.Drop place) = codes "drop" ∷ run_place_spelling place ∷ []
run_step_words (steps.Fill granule word) = codes "fill" ∷ granule_spelling granule ∷ hex_digits 32 word.0 ∷ []
run_step_words (steps.Object register) = codes "object" ∷ register_spelling register ∷ []
run_step_words (steps.Widen register number) = codes "object" ∷ register_spelling register ∷ decimal number ∷ []
run_step_words (steps.FreeOwner register) = codes "free" ∷ register_spelling register ∷ []
run_step_words (steps.FreeNumber number) = codes "free" ∷ decimal number ∷ []

-- its numbers are in range
abbrev pub IsRunStepInRange : RunStep → Type 0
IsRunStepInRange (steps.Derive step) = IsRunRegister 1 step.target × IsRunRegister 0 step.source × IsWord step.result.word.0
IsRunStepInRange (steps.Exchange step) =
    IsTarget step.target × IsRegister step.source × IsRegister step.special × IsWord step.result.word.0 × IsWord step.special_result.word.0
IsRunStepInRange (steps.Invoke step) =
    IsRegister step.code × IsRegister step.datum × IsWord step.code_word.0 × IsWord step.datum_word.0
IsRunStepInRange (steps.Drop place) = IsRunPlace place
IsRunStepInRange (steps.Fill granule word) = IsGranule granule × IsWord word.0
IsRunStepInRange (steps.Object register) = IsTarget register
IsRunStepInRange (steps.Widen register number) = IsTarget register × IsObjectNumber number
IsRunStepInRange (steps.FreeOwner register) = IsTarget register
IsRunStepInRange (steps.FreeNumber number) = IsObjectNumber number

-- the words of a line
abbrev pub run_line_words : RunLine → List (List ℕ)
run_line_words lines.Version = codes "run" ∷ codes "1" ∷ []
run_line_words (lines.Plain version) = codes "capcheck" ∷ decimal version ∷ []
run_line_words (lines.Mode mode) = codes "mode" ∷ mode_spelling mode ∷ []
run_line_words (lines.Root place word) = codes "root" ∷ run_place_spelling place ∷ hex_digits 32 word.0 ∷ []
run_line_words (lines.Hart hart) = codes "hart" ∷ decimal hart ∷ []
run_line_words (lines.Step step) = step_words step
run_line_words (lines.Run step) = run_step_words step
run_line_words (lines.End steps) = codes "end" ∷ decimal steps ∷ []

-- the line's bytes, without its line feed: its words with a single space between each two
unfoldable pub run_spelling : RunLine → List ℕ
run_spelling line = join_with_byte 32 (run_line_words line)

-- the numbers of a line are in range
abbrev pub IsRunLineInRange : RunLine → Type 0
IsRunLineInRange lines.Version = Unit {0}
IsRunLineInRange (lines.Plain version) = IsVersion version
IsRunLineInRange (lines.Mode mode) = Unit {0}
IsRunLineInRange (lines.Root place word) = IsRunPlace place × IsWord word.0
IsRunLineInRange (lines.Hart hart) = IsHart hart
IsRunLineInRange (lines.Step step) = IsStepInRange step
IsRunLineInRange (lines.Run step) = IsRunStepInRange step
IsRunLineInRange (lines.End steps) = steps < 2 ^ 32

-- the bytes are the one spelling of this line
abbrev pub SpellsRun : List ℕ → RunLine → Type 0
SpellsRun bytes line = IsRunLineInRange line × (bytes ≡ run_spelling line)

-- the line and its line feed stand at the front of a buffer, count bytes; the rest is as it was
pub record IsRunLineAt (line : RunLine) (old new : List ℕ) (count : ℕ) : Type 0 where
  pub ends : count ≡ length (run_spelling line) + 1
  pub fits : count ≤ 96
  pub written : take count new ≡ run_spelling line ++ 10 ∷ []
  pub rest : drop count new ≡ drop count old
