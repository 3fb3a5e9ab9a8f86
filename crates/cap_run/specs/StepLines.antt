-- Lines of steps of version 2, made one after another (this profile's own).
use Rattle.std.specs.Prelude.{◌≡◌, ℕ, List, [], ◌∷◌, ◌++◌, flat_map, Option, Some, None, Result}
use Rattle.std.specs.{Borrow.Bor, List.AllByRecursion}
use Rattle.cap_log.specs.{declared.kinds.Step.Step, Lines.IsStepInRange, Parts.Begins}
use Rattle.cap_run_log.specs.RunLines.{IsRunLineInRange, run_spelling}
use Rattle.cap_run_log.specs.declared.lines.RunLine.TheVariants as lines
use Rattle.cap_run.specs.{declared.{asks.Asks.Asks, ends.RunEnd.RunEnd}, Run.Run, RunChanges.usual_after, RunChecks.{Answers, usual_end, usual_wants}}

-- steps that no check refuses lead from a run to a run
abbrev pub LeadBy : Asks → Run → List Step → Run → Type 0
LeadBy asks old [] new = old ≡ new
LeadBy asks old (step ∷ steps) new =
    (usual_end asks old step ≡ None) × LeadBy asks (usual_after old step) steps new

-- the text of steps: each line's spelling and a line feed
abbrev pub text_of_steps : List Step → List ℕ
text_of_steps steps = flat_map (λ step. run_spelling (lines.Step step) ++ 10 ∷ []) steps

-- the bytes are lines of steps that lead from a run to a run
pub record MakesUsualSteps (asks : Asks) (old : Run) (bytes : List ℕ) (new : Run) : Type 0 where
  pub steps : List Step
  pub in_range : AllByRecursion IsStepInRange steps
  pub bytes_are : bytes ≡ text_of_steps steps
  pub leads : LeadBy asks old steps new

-- a step was taken from the front of the bytes, and what follows its line feed is left; or nothing has changed
abbrev pub TakesStep : Asks → Run → List ℕ → Option (Bor (List ℕ)) → Asks → Run → Type 0
TakesStep asks old bytes (Some rest) asks_then new =
    (step : Step) × Begins IsRunLineInRange run_spelling 10 bytes (lines.Step step) rest.now × (usual_end asks old step ≡ None)
    × (new ≡ usual_after old step) × (asks_then ≡ asks)
TakesStep asks old bytes None asks_then new = (new ≡ old) × (asks_then ≡ asks)

-- the bytes are the line of a step, and this is its answer; or they are none, and nothing has changed
abbrev pub TakesAlone : Asks → Run → List ℕ → Option (Result (Unit {0}) RunEnd) → Asks → Run → Type 0
TakesAlone asks old bytes (Some result) asks_then new =
    (step : Step) × Begins IsRunLineInRange run_spelling 10 bytes (lines.Step step) []
    × Answers (usual_end asks old step) (usual_after old step) (usual_wants old step) old result new × (asks_then ≡ asks)
TakesAlone asks old bytes None asks_then new = (new ≡ old) × (asks_then ≡ asks)
