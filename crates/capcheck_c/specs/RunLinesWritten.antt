-- What writing a line of a run log into a buffer gives (this profile's own).
use Rattle.std.specs.Prelude.{◌≡◌, ℕ, List, Option, None, Some}
use Rattle.cap_run_log.specs.declared.lines.{RunLine.{RunLine, TheVariants.Run}, RunStep.RunStep}
use Rattle.cap_run_log.specs.RunLines.{IsRunLineAt, IsRunLineInRange}

-- what the call that writes a line answers: the line, where its numbers are in range, and its length; else
-- 0, and the buffer is as it was
pub record AnswersRunLine (line : RunLine) (old new : List ℕ) (count : ℕ) : Type 0 where
  pub written : IsRunLineInRange line → IsRunLineAt line old new count
  pub none : ¬ IsRunLineInRange line → count ≡ 0
  pub kept : ¬ IsRunLineInRange line → new ≡ old

-- the same for a step that C's numbers name, and where they name none
abbrev pub AnswersRunStep : Option RunStep → List ℕ → List ℕ → ℕ → Type 0
AnswersRunStep (Some step) old new count = AnswersRunLine (Run step) old new count
AnswersRunStep None old new count = (count ≡ 0) × (new ≡ old)
