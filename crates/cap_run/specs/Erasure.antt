-- Lines without those that hand out objects, widen them or free them (this profile's own).
use Rattle.std.specs.Prelude.{◌≡◌, ℕ, ◌+◌, ◌-◌, Bool, true, false, if◌then◌else◌, List, [], ◌∷◌, None}
use Rattle.cap_run_log.specs.declared.lines.{RunLine.RunLine, RunStep.RunStep}
use Rattle.cap_run_log.specs.declared.lines.RunLine.TheVariants as lines
use Rattle.cap_run_log.specs.declared.lines.RunStep.TheVariants as steps
use Rattle.cap_run.specs.{Allowed.AreAllowed, declared.asks.Asks.Asks, Descents.run_along, Run.Run, RunChanges.no_run}

-- whether a step hands out an object, widens one or frees one
abbrev pub is_of_objects : RunStep → Bool
is_of_objects (steps.Object register) = true
is_of_objects (steps.Widen register number) = true
is_of_objects (steps.FreeOwner register) = true
is_of_objects (steps.FreeNumber number) = true
is_of_objects step = false

-- how many of these lines do
abbrev pub object_lines : List RunLine → ℕ
object_lines [] = 0
object_lines (lines.Run step ∷ rest) = (if is_of_objects step then 1 else 0) + object_lines rest
object_lines (line ∷ rest) = object_lines rest

-- lines without those, after so many were left out: an end line counts the steps that are left
abbrev pub erased_after : ℕ → List RunLine → List RunLine
erased_after gone [] = []
erased_after gone (lines.Run step ∷ rest) =
    if is_of_objects step then erased_after (gone + 1) rest else lines.Run step ∷ erased_after gone rest
erased_after gone (lines.End count ∷ rest) = lines.End (count - gone) ∷ erased_after gone rest
erased_after gone (line ∷ rest) = line ∷ erased_after gone rest

abbrev pub erased : List RunLine → List RunLine
erased read = erased_after 0 read

-- a run without objects, and with so many steps fewer
abbrev pub without_objects : ℕ → Run → Run
without_objects gone run = record run { owners = λ key. None; objects = λ number. None; count = 0; steps = run.steps - gone }

-- without the lines of objects each line is allowed, and they lead to the same run but for its objects and for how many
-- steps it has
abbrev pub AllowsErased : Asks → List RunLine → Type 0
AllowsErased asks read =
    AreAllowed asks no_run (erased read) × (run_along (erased read) ≡ without_objects (object_lines read) (run_along read))
