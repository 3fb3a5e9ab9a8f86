-- The lines that show what a place of a run holds (this profile's own).
use Rattle.std.specs.Prelude.{ℕ, ◌^◌, ◌≤◌, ◌<◌, List, [], ◌++◌, Option, Some, None, codes, decimal}
use Rattle.cap_word.specs.{declared.word.Cap.Cap, Digits.hex_digits}
use Rattle.cap_log.specs.Lines.{tag_spelling}
use Rattle.cap_texts.specs.CapLines.{meaning_lines}
use Rattle.cap_run_log.specs.declared.lines.{RunPlace.{RunPlace, TheVariants.{General, Special, Granule}}, RunRegister.RunRegister}
use Rattle.cap_run_log.specs.declared.lines.RunRegister.TheVariants as registers
use Rattle.cap_run_log.specs.RunLines.{run_place_spelling}
use Rattle.cap_run.specs.{Run.{Run, register_key}}
use Rattle.cap_run_report.specs.declared.cap_parts.Placed.{Placed}

-- a place that can be read: c0 too
abbrev pub IsReadable : RunPlace → Type 0
IsReadable (General number) = number ≤ 31
IsReadable (Special number) = number ≤ 31
IsReadable (Granule number) = number < 2 ^ 60

-- a register as a place
abbrev pub place_of : RunRegister → RunPlace
place_of (registers.General number) = General number
place_of (registers.Special number) = Special number

-- what a register of a run holds, and what a line records for a register
abbrev pub placed_in : Run → RunRegister → Placed
placed_in run register = record { place = place_of register; cap = run.state (register_key register) }

abbrev pub recorded_for : RunRegister → Cap → Placed
recorded_for register result = record { place = place_of register; cap = result }

-- a capability after its place: its tag, its word, and what the word stands for
unfoldable pub cap_lines : List ℕ → Cap → List ℕ
cap_lines name cap =
    codes " " ++ tag_spelling cap.tag ++ codes " " ++ hex_digits 32 cap.word.0 ++ codes "\n" ++ meaning_lines name cap.word.0

-- a capability after a name and its place
unfoldable pub told_lines : List ℕ → List ℕ → Cap → List ℕ
told_lines name place cap = name ++ codes " " ++ place ++ cap_lines name cap

abbrev pub held_lines : List ℕ → RunPlace → Cap → List ℕ
held_lines name place = told_lines name (run_place_spelling place)

-- what a register of a run holds
abbrev pub register_lines : List ℕ → Run → RunRegister → List ℕ
register_lines name run register = held_lines name (place_of register) (run.state (register_key register))

-- the number of the object that owns a place, if there is one
unfoldable pub owner_number_line : ℕ → List ℕ
owner_number_line number = codes "register owner " ++ decimal number ++ codes "\n"

abbrev pub owned_lines : Option ℕ → List ℕ
owned_lines None = []
owned_lines (Some number) = owner_number_line number
