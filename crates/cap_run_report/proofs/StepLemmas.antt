-- What is told of a line for its refusal.
use Rattle.std.proofs.Common.{◌≡◌, ℕ, List, [], ◌++◌, codes, Option, refl, subst}
use Rattle.cap_word.specs.{declared.word.Word.Word, Digits.hex_digits}
use Rattle.cap_bounds.specs.Bounds.{length_of}
use Rattle.cap_ops.specs.declared.refusal.Refusal.{Refusal, TheVariants.{BadHeader, BadLine, BadMode, LimitPassed, LineTooLong, Misplaced}}
use Rattle.cap_ops.specs.declared.refusal.Refusal.TheVariants.{PlaceTaken, Truncated, WrongCount}
use Rattle.cap_log.specs.declared.kinds.Step.{Step}
use Rattle.cap_machine.specs.{Accounts.Account, declared.shown.Reached.Reached, Shown.shown_of, States.tagged}
use Rattle.cap_report.specs.{Parts.lines_of_parts, Says.unsound_text, StepLines.asked_parts}
use Rattle.cap_texts.specs.TextLines.{says_line, text_line}
use Rattle.cap_run_log.specs.declared.lines.{RunPlace.RunPlace, RunRegister.{RunRegister, TheVariants.{General, Special}}}
use Rattle.cap_run_log.specs.RunLines.{IsRunRegister}
use Rattle.cap_run.specs.declared.ends.RunRefusal.{RunRefusal}
use Rattle.cap_run.specs.declared.ends.RunRefusal.TheVariants.{AlreadyFreed, HasOwner, NoCapability, NoObject, NoOwner, NotOwned}
use Rattle.cap_run.specs.declared.ends.RunRefusal.TheVariants.{Overlaps, OwnerFreed, StillHeld, Usual}
use Rattle.cap_run.specs.{Run.Run, RunChanges.account_in}
use Rattle.cap_run_report.specs.{CapParts.held_lines, LineReports.{AreLineDetails, AreRunDetails, AreUsualDetails, root_lines}}
use Rattle.cap_run_report.specs.StepParts.{AreAccessLines, AreFreeLines, AreLifeLines, AreReachedLines, AreUsualLines}

-- a step of version 2 that is refused for its owner
pub usual_other : (run : Run) (step : Step) (refusal : RunRefusal) (access : List ℕ) → ((usual : Refusal) → refusal ≡ Usual usual → ⊥)
    → (let account = account_in run in let shown = shown_of account.state step in AreAccessLines run shown.access refusal access
    → AreUsualLines run step refusal (lines_of_parts (asked_parts account shown) ++ access))
usual_other run step (Usual usual) access other are = absurd (other usual refl)
usual_other run step refusal access other are = (access, are, refl)

pub usual_told : (run : Run) (step : Step) (refusal : RunRefusal) (access : List ℕ) (account : Account) → account_in run ≡ account
    → ((usual : Refusal) → refusal ≡ Usual usual → ⊥) → (let shown = shown_of account.state step in AreAccessLines run shown.access refusal access
    → AreUsualLines run step refusal (lines_of_parts (asked_parts account shown) ++ access))
usual_told run step refusal access account is other =
    subst (λ (a : Account). let shown = shown_of a.state step in AreAccessLines run shown.access refusal access
    → AreUsualLines run step refusal (lines_of_parts (asked_parts a shown) ++ access)) is
    (usual_other run step refusal access other)

-- what a register holds is handed out or freed in vain for another reason
pub life_other : (run : Run) (register : ℕ) (number : Option ℕ) (refusal : RunRefusal) → (refusal ≡ HasOwner → ⊥) → (refusal ≡ AlreadyFreed → ⊥)
    → (refusal ≡ NoObject → ⊥) → (refusal ≡ Overlaps → ⊥) → (refusal ≡ StillHeld → ⊥) → (refusal ≡ NoCapability → ⊥) → (refusal ≡ NoOwner → ⊥)
    → AreLifeLines run register number refusal []
life_other run register number HasOwner n0 n1 n2 n3 n4 n5 n6 = absurd (n0 refl)
life_other run register number AlreadyFreed n0 n1 n2 n3 n4 n5 n6 = absurd (n1 refl)
life_other run register number NoObject n0 n1 n2 n3 n4 n5 n6 = absurd (n2 refl)
life_other run register number Overlaps n0 n1 n2 n3 n4 n5 n6 = absurd (n3 refl)
life_other run register number StillHeld n0 n1 n2 n3 n4 n5 n6 = absurd (n4 refl)
life_other run register number NoCapability n0 n1 n2 n3 n4 n5 n6 = absurd (n5 refl)
life_other run register number NoOwner n0 n1 n2 n3 n4 n5 n6 = absurd (n6 refl)
life_other run register number refusal n0 n1 n2 n3 n4 n5 n6 = refl

-- an object is freed in vain by its number for another reason
pub free_other : (run : Run) (number : ℕ) (refusal : RunRefusal) → (refusal ≡ AlreadyFreed → ⊥) → (refusal ≡ NoObject → ⊥)
    → AreFreeLines run number refusal []
free_other run number AlreadyFreed n0 n1 = absurd (n0 refl)
free_other run number NoObject n0 n1 = absurd (n1 refl)
free_other run number refusal n0 n1 = refl

-- an access is refused for another reason than its owner
pub reached_other : (run : Run) (access : Reached) (refusal : RunRefusal) → (refusal ≡ OwnerFreed → ⊥) → (refusal ≡ NotOwned → ⊥)
    → AreReachedLines run access refusal []
reached_other run access OwnerFreed n0 n1 = absurd (n0 refl)
reached_other run access NotOwned n0 n1 = absurd (n1 refl)
reached_other run access refusal n0 n1 = refl

-- a root is refused for another reason than its place
pub root_other : (run : Run) (place : RunPlace) (word : Word) (refusal : RunRefusal) → (refusal ≡ Usual PlaceTaken → ⊥)
    → root_lines run place word refusal ≡ held_lines (codes "root") place (tagged word) ++ text_line (codes "length") (hex_digits 17 (length_of word.0))
    ++ says_line (unsound_text word.0)
root_other run place word (Usual PlaceTaken) other = absurd (other refl)
root_other run place word refusal other = refl

-- a line that is refused for what its checks saw
pub details_other : (run : Run) (line : ℕ) (text : List ℕ) (refusal : Refusal) (told : List ℕ) → (refusal ≡ BadHeader → ⊥) → (refusal ≡ LineTooLong → ⊥)
    → (refusal ≡ BadLine → ⊥) → (refusal ≡ BadMode → ⊥) → (refusal ≡ Misplaced → ⊥) → (refusal ≡ Truncated → ⊥) → (refusal ≡ WrongCount → ⊥)
    → (refusal ≡ LimitPassed → ⊥) → AreLineDetails run text (Usual refusal) told → AreUsualDetails run line text refusal told
details_other run line text BadHeader told n0 n1 n2 n3 n4 n5 n6 n7 is = absurd (n0 refl)
details_other run line text LineTooLong told n0 n1 n2 n3 n4 n5 n6 n7 is = absurd (n1 refl)
details_other run line text BadLine told n0 n1 n2 n3 n4 n5 n6 n7 is = absurd (n2 refl)
details_other run line text BadMode told n0 n1 n2 n3 n4 n5 n6 n7 is = absurd (n3 refl)
details_other run line text Misplaced told n0 n1 n2 n3 n4 n5 n6 n7 is = absurd (n4 refl)
details_other run line text Truncated told n0 n1 n2 n3 n4 n5 n6 n7 is = absurd (n5 refl)
details_other run line text WrongCount told n0 n1 n2 n3 n4 n5 n6 n7 is = absurd (n6 refl)
details_other run line text LimitPassed told n0 n1 n2 n3 n4 n5 n6 n7 is = absurd (n7 refl)
details_other run line text refusal told n0 n1 n2 n3 n4 n5 n6 n7 is = is

pub run_details : (run : Run) (line : ℕ) (text : List ℕ) (refusal : RunRefusal) (told : List ℕ) → ((usual : Refusal) → refusal ≡ Usual usual → ⊥)
    → AreLineDetails run text refusal told → AreRunDetails run line text refusal told
run_details run line text (Usual usual) told other is = absurd (other usual refl)
run_details run line text refusal told other is = is

-- a register that can be written can be read
pub target_read : (register : RunRegister) → IsRunRegister 1 register → IsRunRegister 0 register
target_read (General number) is = is.1
target_read (Special number) is = is
