-- What is told of a line for its refusal.
use Rattle.std.proofs.Common.{◌≡◌, ◌⊎◌, ℕ, inl, inr, Bool, true, false, List, [], ◌++◌, refl, codes}
use Rattle.cap_word.specs.{declared.word.Word.Word, Digits.hex_digits}
use Rattle.cap_bounds.specs.Bounds.{length_of}
use Rattle.cap_ops.specs.declared.refusal.Refusal.{Refusal, TheVariants.{BadHeader, LineTooLong, BadLine, Misplaced}}
use Rattle.cap_ops.specs.declared.refusal.Refusal.TheVariants.{Truncated, WrongCount, PlaceTaken, LimitPassed, BadMode}
use Rattle.cap_log.specs.{declared.{kinds.Step.Step, lines.{Line.Line, Place.Place}}, Lines.Spells}
use Rattle.cap_texts.specs.{CapLines.cap_lines, TextLines.{says_line, text_line}}
use Rattle.cap_machine.specs.Accounts.{Account}
use Rattle.cap_machine.specs.States.{tagged}
use Rattle.cap_judge.specs.Logs.{SpellsBy, has_form}
use Rattle.cap_judge.proofs.JudgeLemmas.{no_form}
use Rattle.cap_report.specs.{FaultReports.{AreDetails, known_lines, root_lines}, Says.unsound_text}

-- the details of a line that is refused for what its tests saw
abbrev pub OfLine : Account → List ℕ → Refusal → List ℕ → Type 0
OfLine account text refusal details =
    ((line : Line) × SpellsBy account.rules text line × (details ≡ known_lines account line refusal))
    ⊎ (((line : Line) → SpellsBy account.rules text line → ⊥) × (details ≡ []))

pub details_other : (account : Account) (text : List ℕ) (refusal : Refusal) (details : List ℕ) → (refusal ≡ BadHeader → ⊥)
    → (refusal ≡ LineTooLong → ⊥) → (refusal ≡ BadLine → ⊥) → (refusal ≡ BadMode → ⊥) → (refusal ≡ Misplaced → ⊥)
    → (refusal ≡ Truncated → ⊥) → (refusal ≡ WrongCount → ⊥) → (refusal ≡ LimitPassed → ⊥)
    → OfLine account text refusal details → AreDetails account text refusal details
details_other account text BadHeader details n0 n1 n2 n3 n4 n5 n6 n7 is = absurd (n0 refl)
details_other account text LineTooLong details n0 n1 n2 n3 n4 n5 n6 n7 is = absurd (n1 refl)
details_other account text BadLine details n0 n1 n2 n3 n4 n5 n6 n7 is = absurd (n2 refl)
details_other account text BadMode details n0 n1 n2 n3 n4 n5 n6 n7 is = absurd (n3 refl)
details_other account text Misplaced details n0 n1 n2 n3 n4 n5 n6 n7 is = absurd (n4 refl)
details_other account text Truncated details n0 n1 n2 n3 n4 n5 n6 n7 is = absurd (n5 refl)
details_other account text WrongCount details n0 n1 n2 n3 n4 n5 n6 n7 is = absurd (n6 refl)
details_other account text LimitPassed details n0 n1 n2 n3 n4 n5 n6 n7 is = absurd (n7 refl)
details_other account text refusal details n0 n1 n2 n3 n4 n5 n6 n7 is = is

-- a line that is no root and no step
pub nothing_known : (account : Account) (line : Line) (refusal : Refusal) → ((place : Place) (word : Word) → line ≡ Line.Root place word → ⊥)
    → ((step : Step) → line ≡ Line.Step step → ⊥) → [] ≡ known_lines account line refusal
nothing_known account (Line.Root place word) refusal root step = absurd (root place word refl)
nothing_known account (Line.Step it) refusal root step = absurd (step it refl)
nothing_known account line refusal root step = refl

-- a line of which nothing is told, whether it has a form or not
pub nothing_told : (account : Account) (text : List ℕ) (line : Line) (refusal : Refusal) (formed : Bool)
    → has_form account.rules line ≡ formed
    → Spells text line → [] ≡ known_lines account line refusal → OfLine account text refusal []
nothing_told account text line refusal true formed spells none = inl (line, (spells, formed), none)
nothing_told account text line refusal false formed spells none = inr (no_form account.rules text line spells formed, refl)

-- a root that is refused for another reason than its place
pub root_other : (account : Account) (place : Place) (word : Word) (refusal : Refusal) → (refusal ≡ PlaceTaken → ⊥)
    → root_lines account place word refusal ≡ cap_lines (codes "root") place (tagged word)
    ++ text_line (codes "length") (hex_digits 17 (length_of word.0)) ++ says_line (unsound_text word.0)
root_other account place word PlaceTaken other = absurd (other refl)
root_other account place word refusal other = refl
