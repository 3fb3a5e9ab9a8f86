-- The report of a first fault in a run log: its line, and what the run held before it (this profile's own).
use Rattle.std.specs.Prelude.{◌≡◌, ◌⊎◌, ℕ, ◌==◌, if◌then◌else◌, List, [], ◌++◌, codes}
use Rattle.cap_word.specs.{declared.word.Word.Word, Digits.hex_digits}
use Rattle.cap_bounds.specs.Bounds.{length_of}
use Rattle.cap_ops.specs.declared.refusal.Refusal.{Refusal, TheVariants.{BadHeader, BadLine, BadMode, LimitPassed, LineTooLong, Misplaced}}
use Rattle.cap_ops.specs.declared.refusal.Refusal.TheVariants.{PlaceTaken, Truncated, WrongCount}
use Rattle.cap_machine.specs.States.{tagged}
use Rattle.cap_texts.specs.{ShownBytes.shown_line, TextLines.{says_line, text_line}, WrongLines.{cut_hint, header_lines, hint_line, place_hint}}
use Rattle.cap_report.specs.{FaultReports.{count_lines, due_line}, Says.{taken_text, unsound_text}}
use Rattle.cap_run_log.specs.declared.lines.{RunLine.RunLine, RunPlace.RunPlace}
use Rattle.cap_run_log.specs.declared.lines.RunLine.TheVariants as lines
use Rattle.cap_run_log.specs.RunLines.{SpellsRun, run_place_spelling}
use Rattle.cap_run.specs.declared.ends.RunRefusal.{RunRefusal, TheVariants.Usual}
use Rattle.cap_run.specs.{Run.Run, RunChanges.{account_in, place_key}}
use Rattle.cap_run_report.specs.{BadRunLines.{AreBadRunLines, AreFirstRunLines}, CapParts.held_lines}
use Rattle.cap_run_report.specs.StepParts.{AreRunStepLines, AreUsualLines}

-- a root: what its place holds already, or what its word stands for, with its length
abbrev pub root_lines : Run → RunPlace → Word → RunRefusal → List ℕ
root_lines run place word (Usual PlaceTaken) =
    held_lines (codes "holds") place (run.state (place_key place)) ++ says_line (run_place_spelling place ++ taken_text)
root_lines run place word refusal =
    held_lines (codes "root") place (tagged word) ++ text_line (codes "length") (hex_digits 17 (length_of word.0))
    ++ says_line (unsound_text word.0)

-- a line that has a form
abbrev pub AreKnownLines : Run → RunLine → RunRefusal → List ℕ → Type 0
AreKnownLines run (lines.Root place word) refusal told = told ≡ root_lines run place word refusal
AreKnownLines run (lines.Step step) refusal told = AreUsualLines run step refusal told
AreKnownLines run (lines.Run step) refusal told = AreRunStepLines run step refusal told
AreKnownLines run line refusal told = told ≡ []

-- what the checks of a line saw, if it has a form
abbrev pub AreLineDetails : Run → List ℕ → RunRefusal → List ℕ → Type 0
AreLineDetails run text refusal told =
    ((line : RunLine) × SpellsRun text line × AreKnownLines run line refusal told)
    ⊎ (((line : RunLine) → SpellsRun text line → ⊥) × (told ≡ []))

-- what has to come where a log is cut, by the number of the line that is missing
abbrev pub cut_due : ℕ → List ℕ
cut_due line =
    if line == 1 then codes "run 1, and a line feed after each line"
    else if line == 2 then codes "mode strict or mode clear, and a line feed after each line"
    else codes "a step or an end line, and a line feed after each line"

-- how much was taken of such a log, and what has to come
abbrev pub cut_lines : Run → ℕ → List ℕ → List ℕ
cut_lines run line text =
    count_lines (account_in run) ++ (text_line (codes "expected") (cut_due line) ++ hint_line (cut_hint text))

-- what is told of a line for a refusal that other logs have too, after what was taken before it: what is expected if it has
-- no form; how much was taken if that decides; and otherwise what its checks saw
abbrev pub AreUsualDetails : Run → ℕ → List ℕ → Refusal → List ℕ → Type 0
AreUsualDetails run line text BadHeader told = AreFirstRunLines text told
AreUsualDetails run line text LineTooLong told = told ≡ text_line (codes "expected") (codes "a line feed after at most 95 bytes")
AreUsualDetails run line text BadLine told = AreBadRunLines text told
AreUsualDetails run line text BadMode told = told ≡ header_lines text (codes "mode strict or mode clear")
AreUsualDetails run line text Misplaced told =
    told ≡ (count_lines (account_in run) ++ due_line (account_in run) Misplaced) ++ hint_line (place_hint text)
AreUsualDetails run line text Truncated told = told ≡ cut_lines run line text
AreUsualDetails run line text WrongCount told = told ≡ count_lines (account_in run) ++ due_line (account_in run) WrongCount
AreUsualDetails run line text LimitPassed told = told ≡ count_lines (account_in run) ++ due_line (account_in run) LimitPassed
AreUsualDetails run line text refusal told = AreLineDetails run text (Usual refusal) told

-- what is told of a line for its refusal
abbrev pub AreRunDetails : Run → ℕ → List ℕ → RunRefusal → List ℕ → Type 0
AreRunDetails run line text (Usual refusal) told = AreUsualDetails run line text refusal told
AreRunDetails run line text refusal told = AreLineDetails run text refusal told

-- the report of a line, by its number, its bytes and the run before it
pub record IsRunLineReport (run : Run) (line : ℕ) (text : List ℕ) (refusal : RunRefusal) (report : List ℕ) : Type 0 where
  pub details : List ℕ
  pub are : AreRunDetails run line text refusal details
  pub report_is : report ≡ shown_line text ++ details
