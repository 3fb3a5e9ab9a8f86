-- What writing a line into a buffer gives (this profile's own).
use Rattle.std.specs.Prelude.{◌≡◌, ℕ, Bool, true, false, List}
use Rattle.cap_log.specs.declared.lines.{Line.Line, Mode.{Mode, TheVariants.{Strict, Clear}}}
use Rattle.cap_log.specs.Lines.{IsInRange, IsLineAt}

-- the mode that C names by a bool
abbrev pub mode_of : Bool → Mode
mode_of true = Clear
mode_of false = Strict

-- what the call that writes a line answers: the line, where its numbers are in range, and its length; else
-- 0, and the buffer is as it was
pub record AnswersLine (line : Line) (old new : List ℕ) (count : ℕ) : Type 0 where
  pub written : IsInRange line → IsLineAt line old new count
  pub none : ¬ IsInRange line → count ≡ 0
  pub kept : ¬ IsInRange line → new ≡ old
