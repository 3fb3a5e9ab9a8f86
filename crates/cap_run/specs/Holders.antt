-- Which object a place belongs to, by its chain of parents (this profile's own).
use Rattle.std.specs.Prelude.{◌≡◌, ℕ, ◌+◌, ◌<◌, IsTrue, List, [], ◌∷◌, ◌++◌, Option, Some, None}
use Rattle.cap_bounds.specs.Bounds.{base_of, top_of}
use Rattle.cap_run.specs.{Descents.{Descends, run_along}, Run.Run}
use Rattle.cap_run_log.specs.declared.lines.{RunLine.RunLine}
use Rattle.cap_run_log.specs.declared.lines.RunLine.TheVariants as lines
use Rattle.cap_run_log.specs.declared.lines.RunStep.TheVariants as steps
use Rattle.cap_word.specs.declared.word.Cap.{Cap}

-- a capability reaches some address: it is tagged, and its bounds aren't empty
abbrev pub ReachesSome : Cap → Type 0
ReachesSome cap = IsTrue cap.tag × (base_of cap.word.0 < top_of cap.word.0)

-- the register that an `object` line names, and the number of the object whose register it then is
abbrev pub handed_by : Run → RunLine → Option (ℕ × ℕ)
handed_by run (lines.Run (steps.Object register)) = Some (register, run.count + 1)
handed_by run (lines.Run (steps.Widen register number)) = Some (register, number)
handed_by run line = None

-- after these lines, a place's chain of parents passes through the register that an `object` line of a number named, at
-- the moment after that line
pub record PassesThrough (read : List RunLine) (key number : ℕ) : Type 0 where
  pub before : List RunLine
  pub line : RunLine
  pub after : List RunLine
  pub register : ℕ
  pub read_is : read ≡ before ++ line ∷ after
  pub names : handed_by (run_along before) line ≡ Some (register, number)
  pub descends : Descends (run_along (before ++ line ∷ [])) after key register

-- after these lines an object owns just the places that reach some address and whose chain of parents passes through one
-- of its registers; each such chain passes through one `object` line at most
pub record OwnersDescend (read : List RunLine) : Type 0 where
  pub owned : (key number : ℕ) → (run_along read).owners key ≡ Some number
      → ReachesSome ((run_along read).state key) × PassesThrough read key number
  pub owns : (key number : ℕ) → ReachesSome ((run_along read).state key) → PassesThrough read key number
      → (run_along read).owners key ≡ Some number
  pub once : (key number other : ℕ) → ReachesSome ((run_along read).state key) → (one : PassesThrough read key number)
      → (two : PassesThrough read key other) → (one.before ≡ two.before) × (one.register ≡ two.register) × (number ≡ other)
