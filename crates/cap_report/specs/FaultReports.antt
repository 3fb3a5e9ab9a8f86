-- The report of a first fault: its line, and what the machine held before it (this profile's own).
use Rattle.std.specs.Prelude.{◌≡◌, ◌⊎◌, ℕ, List, [], ◌++◌, codes, decimal}
use Rattle.cap_word.specs.{declared.word.Word.Word, Digits.hex_digits}
use Rattle.cap_bounds.specs.Bounds.{length_of}
use Rattle.cap_ops.specs.declared.refusal.Refusal.{Refusal, TheVariants.{BadHeader, LineTooLong, BadLine, Misplaced}}
use Rattle.cap_ops.specs.declared.refusal.Refusal.TheVariants.{Truncated, WrongCount, PlaceTaken, LimitPassed, BadMode}
use Rattle.cap_log.specs.{declared.lines.{Line.Line, Place.Place}, Lines.place_spelling}
use Rattle.cap_streams.specs.Front.{IsFrontText}
use Rattle.cap_log.specs.declared.lines.Line.TheVariants as lines
use Rattle.cap_texts.specs.{CapLines.{cap_lines, operand_lines}, ShownBytes.shown_line, TextLines.{says_line, text_line}}
use Rattle.cap_texts.specs.WrongLines.{cut_hint, header_lines, hint_line, place_hint}
use Rattle.cap_machine.specs.{Accounts.Account, States.{key_of, tagged}}
use Rattle.cap_judge.specs.{Judgings.account_before, Logs.{SpellsBy, IsFirstFault}}
use Rattle.cap_report.specs.{BadLines.{AreBadLines, AreFirstLines}, Says.{taken_text, unsound_text}, StepLines.step_lines}

-- how many roots, steps and distinct granules were taken so far
unfoldable pub count_lines : Account → List ℕ
count_lines account =
    text_line (codes "roots") (decimal account.roots)
    ++ text_line (codes "steps") (decimal account.steps)
    ++ text_line (codes "granules") (decimal account.granules)

-- what has to come, where that is decided by how much was taken, or that no more may come
abbrev pub due_line : Account → Refusal → List ℕ
due_line account Misplaced = text_line (codes "expected") (codes "roots before steps, one end line, and nothing after it")
due_line account Truncated = text_line (codes "expected") (codes "an end line, and a line feed after each line")
due_line account WrongCount = text_line (codes "expected end") (decimal account.steps)
due_line account LimitPassed = says_line (codes "it would pass a limit on roots, steps or granules")
due_line account refusal = []

-- a root: what its place holds already, with the root of that, or what its word stands for, with its length
abbrev pub root_lines : Account → Place → Word → Refusal → List ℕ
root_lines account place word PlaceTaken =
    let key = key_of place in
    operand_lines (codes "holds") place (account.state key) (account.origin key)
    ++ says_line (place_spelling place ++ taken_text)
root_lines account place word refusal =
    cap_lines (codes "root") place (tagged word) ++ text_line (codes "length") (hex_digits 17 (length_of word.0))
    ++ says_line (unsound_text word.0)

-- a line that has a form
abbrev pub known_lines : Account → Line → Refusal → List ℕ
known_lines account (lines.Root place word) refusal = root_lines account place word refusal
known_lines account (lines.Step step) refusal = step_lines account step refusal
known_lines account line refusal = []

-- what is told of a line for its refusal, after what was taken before it: what is expected if it has no form; how much
-- was taken if that decides; and otherwise what its checks saw
abbrev pub AreDetails : Account → List ℕ → Refusal → List ℕ → Type 0
AreDetails account text BadHeader details = AreFirstLines text details
AreDetails account text LineTooLong details = details ≡ text_line (codes "expected") (codes "a line feed after at most 95 bytes")
AreDetails account text BadLine details = AreBadLines text details
AreDetails account text BadMode details = details ≡ header_lines text (codes "mode strict or mode clear")
AreDetails account text Misplaced details =
    details ≡ (count_lines account ++ due_line account Misplaced) ++ hint_line (place_hint text)
AreDetails account text Truncated details =
    details ≡ (count_lines account ++ due_line account Truncated) ++ hint_line (cut_hint text)
AreDetails account text WrongCount details = details ≡ count_lines account ++ due_line account WrongCount
AreDetails account text LimitPassed details = details ≡ count_lines account ++ due_line account LimitPassed
AreDetails account text refusal details =
    ((line : Line) × SpellsBy account.rules text line × (details ≡ known_lines account line refusal))
    ⊎ (((line : Line) → SpellsBy account.rules text line → ⊥) × (details ≡ []))

-- the report of a line, by its bytes and the account before it
pub record IsLineReport (account : Account) (text : List ℕ) (refusal : Refusal) (report : List ℕ) : Type 0 where
  pub details : List ℕ
  pub are : AreDetails account text refusal details
  pub report_is : report ≡ shown_line text ++ details

-- the report of a first fault: of the line that follows what was accepted, by the account of that
pub record IsReport (bytes : List ℕ) (number : ℕ) (refusal : Refusal) (report : List ℕ) : Type 0 where
  pub fault : IsFirstFault bytes number refusal
  pub text : List ℕ
  pub front : IsFrontText fault.rest text
  pub told : IsLineReport (account_before fault.beginning) text refusal report
