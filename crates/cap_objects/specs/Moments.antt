-- When steps of a run were made (this profile's own).
use Rattle.std.specs.Prelude.{ℕ, ◌+◌}
use Rattle.cap_objects.specs.declared.moments.Moment.{Moment}

-- no step yet
abbrev pub never : Moment
never = record { steps = 0; hart_lines = 0 }

-- the number of a step's line in a log with so many roots
abbrev pub line_at : ℕ → Moment → ℕ
line_at roots moment = 2 + roots + moment.steps + moment.hart_lines
