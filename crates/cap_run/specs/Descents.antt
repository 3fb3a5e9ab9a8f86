-- Which root each capability of a run descends from (this profile's own).
use Rattle.std.specs.Prelude.{◌≡◌, ℕ, ◌+◌, ◌==◌, Bool, if◌then◌else◌, IsTrue, List, [], ◌∷◌, ◌++◌, Option, Some, None, fold}
use Rattle.cap_word.specs.declared.word.Word.{Word}
use Rattle.cap_bounds.specs.Bounds.{base_of, top_of, IsInside}
use Rattle.cap_ops.specs.{Authority.ReachesNoMore, Permissions.has_permission}
use Rattle.cap_machine.specs.{Runs.parent_of, States.granule_key, Steps.{Access, row_of}}
use Rattle.cap_run_log.specs.declared.lines.{RunLine.RunLine, RunPlace.RunPlace, RunRegister.TheVariants.Special, RunStep.RunStep}
use Rattle.cap_run_log.specs.declared.lines.RunLine.TheVariants as lines
use Rattle.cap_run_log.specs.declared.lines.RunStep.TheVariants as steps
use Rattle.cap_run.specs.{Harts.came_from, Run.{Run, first_special, register_key}, RunChanges.{line_after, main_of, no_run, place_key, usual_after}}

-- a place that is written, and the place that what it then holds is derived from: none where that has no tag
abbrev pub Written : Type 0
Written = ℕ × Option ℕ

-- where a result with this tag comes from
abbrev pub source_if : Bool → ℕ → Option ℕ
source_if tag source = if tag then Some source else None

-- the places that a step writes, which only runs have
abbrev pub writes_of : RunStep → List Written
writes_of (steps.Derive step) = (register_key step.target, source_if step.result.tag (register_key step.source)) ∷ []
writes_of (steps.Exchange step) =
    let key = register_key (Special step.special) in
    (step.target, source_if step.result.tag key) ∷ (key, source_if step.special_result.tag step.source) ∷ []
writes_of (steps.Invoke step) = (first_special, Some step.code) ∷ (31, Some step.datum) ∷ []
writes_of (steps.Drop place) = (place_key place, None) ∷ []
writes_of (steps.Fill granule word) = (granule_key granule, None) ∷ []
writes_of step = []

-- the place that a place's capability comes from, by what was written: the place itself if it wasn't
abbrev pub parent_by : List Written → ℕ → Option ℕ
parent_by [] key = Some key
parent_by (write ∷ writes) key = if write.0 == key then write.1 else parent_by writes key

-- the place that a place's capability comes from in a line
abbrev pub line_parent : Run → RunLine → ℕ → Option ℕ
line_parent run (lines.Step step) key = parent_of (main_of run.state) step (main_of (usual_after run step).state) key
line_parent run (lines.Run step) key = parent_by (writes_of step) key
line_parent run (lines.Hart hart) key = Some (came_from run.harts.current hart key)
line_parent run line key = Some key

-- the chain of parents from a place after lines leads back to a place before them, both by their keys
abbrev pub Descends : Run → List RunLine → ℕ → ℕ → Type 0
Descends run [] key from = key ≡ from
Descends run (line ∷ rest) key from =
    (middle : ℕ) × Descends (line_after run line) rest key middle × (line_parent run line middle ≡ Some from)

-- a run after lines
abbrev pub run_along : List RunLine → Run
run_along lines = fold line_after no_run lines

-- after these lines a place descends from the root that one of them declared
pub record DescendsFrom (lines_are : List RunLine) (key : ℕ) (place : RunPlace) (word : Word) : Type 0 where
  pub before : List RunLine
  pub after : List RunLine
  pub declared : lines_are ≡ before ++ lines.Root place word ∷ after
  pub descends : Descends (run_along (before ++ lines.Root place word ∷ [])) after key (place_key place)

-- authority never grows: after the lines each tagged place has bounds inside, and permissions among, those of the root that
-- it descends from
abbrev pub StaysWithinRoots : List RunLine → Type 0
StaysWithinRoots read =
    (key : ℕ) → IsTrue ((run_along read).state key).tag
    → (place : RunPlace) × (word : Word) × DescendsFrom read key place word × ReachesNoMore ((run_along read).state key).word.0 word.0

-- the access of a line
abbrev pub access_of : Run → RunLine → Option Access
access_of run (lines.Step step) = (row_of (main_of run.state) step).access
access_of run line = None

-- the access of the line after these lies inside the root that its authority descends from, which has its permission
abbrev pub LiesInRoot : List RunLine → RunLine → Type 0
LiesInRoot read line =
    (access : Access) → access_of (run_along read) line ≡ Some access
    → (place : RunPlace) × (word : Word) × DescendsFrom read access.authority place word
    × IsInside access.address (access.address + access.size) (base_of word.0) (top_of word.0)
    × IsTrue (has_permission word.0 access.permission)
