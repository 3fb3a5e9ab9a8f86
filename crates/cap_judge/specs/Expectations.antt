-- What the rules give for the step at fault, where its line records another result (this profile's own).
use Rattle.std.specs.Prelude.{◌≡◌, ◌≢◌, ℕ, List, ◌∷◌, ◌++◌, Option, Some, None}
use Rattle.cap_word.specs.declared.word.Cap.{Cap}
use Rattle.cap_ops.specs.{declared.refusal.Refusal.{Refusal, TheVariants.WrongResult}, Checks.first_of}
use Rattle.cap_log.specs.{declared.{kinds.Step.Step, lines.Place.Place}, Lines.Spells}
use Rattle.cap_log.specs.declared.lines.Line.TheVariants as lines
use Rattle.cap_machine.specs.{declared.{rules.Rules.Rules, shown.Given.Given}, Accounts.{Account, row_in, step_checks}}
use Rattle.cap_machine.specs.{States.DeclaredRoot, Steps.{Access, Recorded, Row, Written, ReadNumber}}
use Rattle.cap_machine.specs.declared.shown.Given.TheVariants as givens
use Rattle.cap_judge.specs.declared.verdict.Expected.{Expected, TheVariants.{Capability, Number}}
use Rattle.cap_judge.specs.Logs.{RunsBy, IsFirstFault, account_after, body_lines, text_of}
use Rattle.cap_turns.specs.Turns.{Due, Refused}

-- what is written, or the number in memory, where a line records it
abbrev pub given_for : Option (Place × Cap) → Recorded → Option Access → Option Expected
given_for (Some write) (Written recorded) access = Some (Capability write.1)
given_for writes (ReadNumber recorded in_memory) (Some access) = Some (Number in_memory access.size)
given_for writes records access = None

-- what the rules give in a row of the machine's table
abbrev pub given_in : Row → Option Expected
given_in row = given_for row.writes row.records row.access

-- the bytes are the text of a body whose steps have a run, a step that is refused for its result, for which the rules
-- give this one, and a rest
pub record IsExpected (bytes : List ℕ) (expected : Expected) : Type 0 where
  pub rules : Rules
  pub roots : List DeclaredRoot
  pub steps : List Step
  pub step : Step
  pub text : List ℕ
  pub more : List ℕ
  pub bytes_are : bytes ≡ text_of (body_lines rules roots steps) ++ text ++ 10 ∷ more
  pub runs : RunsBy rules roots steps
  pub spelled : Spells text (lines.Step step)
  pub refused : first_of (step_checks (account_after rules roots steps) step) ≡ Some WrongResult
  pub given : given_in (row_in (account_after rules roots steps) step) ≡ Some expected

-- what the rules give for the first fault of the bytes: nothing exactly where it isn't refused for its result
abbrev pub Expects : List ℕ → Option Expected → Type 0
Expects bytes None = (line : ℕ) → IsFirstFault bytes line WrongResult → ⊥
Expects bytes (Some expected) = IsExpected bytes expected

-- what the rules give for a step, if it is refused for its result
abbrev pub GivesFor : Account → Step → Option Expected → Type 0
GivesFor account step None = first_of (step_checks account step) ≡ Some WrongResult → ⊥
GivesFor account step (Some expected) =
    first_of (step_checks account step) ≡ Some WrongResult → given_in (row_in account step) ≡ Some expected

-- what they give for the step that a text spells
abbrev pub GivesForText : Account → List ℕ → Option Expected → Type 0
GivesForText account text result = (step : Step) → Spells text (lines.Step step) → GivesFor account step result

-- what is told of the faulty line: what the rules give for its step, if it is refused for its result, and else nothing
abbrev pub ExpectsAt : Account → Due Refusal → Option Expected → Type 0
ExpectsAt account (Refused line refusal text) result =
    (refusal ≡ WrongResult → GivesForText account text result) × (refusal ≢ WrongResult → result ≡ None)
ExpectsAt account due result = result ≡ None

-- what the rules give, without the recorded result
abbrev pub expected_of : Given → Option Expected
expected_of (givens.Capability place cap fault recorded) = Some (Capability cap)
expected_of (givens.Number value size recorded) = Some (Number value size)
expected_of givens.Nothing = None
