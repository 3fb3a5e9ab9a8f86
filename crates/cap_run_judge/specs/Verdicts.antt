-- The verdict on the bytes of a run log. All of it is this profile's own.
use Rattle.std.specs.Prelude.{◌≡◌, ℕ, List, ◌∷◌, ◌++◌}
use Rattle.cap_streams.specs.declared.judging.judge_faults.JudgeFault.{JudgeFault, TheVariants.{Pull, NoMemory}}
use Rattle.cap_run_log.specs.declared.lines.RunLine.{RunLine}
use Rattle.cap_turns.specs.{Turns.Goes, Verdicts.{IsFirstFault, IsWhole, MayLackMemory}}
use Rattle.cap_run.specs.declared.asks.Asks.{Asks}
use Rattle.cap_run.specs.{Allowed.DescendsFromOne, Descents.{LiesInRoot, StaysWithinRoots, run_along}, OwnedAccesses.AccessesOwn, Safety.IsSafe}
use Rattle.cap_run_judge.specs.{declared.verdict.RunVerdict.{RunVerdict, TheVariants.{Yes, No}}, Turns.{RunStage, run_turns, unread}}

-- what is true along the lines of a run log, at every moment
pub record AreGuarded (asks : Asks) (lines : List RunLine) : Type 0 where
  -- each tagged capability in a register, a special register or memory has bounds inside and permissions
  -- among those of the one root that it descends from, and each access lies inside such a root
  pub roots : (before after : List RunLine) → lines ≡ before ++ after → StaysWithinRoots before
  pub one_root : (before after : List RunLine) → lines ≡ before ++ after → DescendsFromOne before
  pub accesses : (before after : List RunLine) (line : RunLine) → lines ≡ before ++ line ∷ after → LiesInRoot before line
  -- what an object owns has bounds inside the object's extent, no address lies in the extents of two objects, nor in what
  -- two capabilities of two objects reach, and an access through what an object owns touches no byte of another: of two live
  -- objects, if extents of freed objects aren't compared
  pub objects : (before after : List RunLine) → lines ≡ before ++ after → IsSafe asks.held (run_along before)
  pub owners : (before after : List RunLine) (line : RunLine) → lines ≡ before ++ line ∷ after → AccessesOwn asks (run_along before) line

-- if the bytes are lines that begin a run log, they are guarded
abbrev pub IsRunGuarded : Asks → List ℕ → Type 0
IsRunGuarded asks bytes = (stage : RunStage) (goes : Goes run_turns (unread asks) bytes stage) → AreGuarded asks goes.lines

-- the bytes are a whole run log, with these counts of steps, roots and objects
pub record IsRunYes (asks : Asks) (bytes : List ℕ) (step_count root_count object_count : ℕ) : Type 0 where
  pub stage : RunStage
  pub whole : IsWhole run_turns (unread asks) bytes stage
  pub step_count_is : step_count ≡ stage.state.run.steps
  pub root_count_is : root_count ≡ stage.state.run.roots
  pub object_count_is : object_count ≡ stage.state.run.count

-- `yes` for a whole run log; otherwise `no` with the first faulty line
abbrev pub IsRunVerdict : Asks → List ℕ → RunVerdict → Type 0
IsRunVerdict asks bytes (Yes steps roots objects) = IsRunYes asks bytes steps roots objects
IsRunVerdict asks bytes (No line refusal) = IsFirstFault run_turns (unread asks) bytes line refusal

-- there is no verdict: after lines that begin a run log, a line that fails no check may want memory
abbrev pub NoRunVerdictIn : Asks → List ℕ → JudgeFault → Type 0
NoRunVerdictIn asks bytes Pull = ⊥
NoRunVerdictIn asks bytes NoMemory = (more : List ℕ) × MayLackMemory run_turns (unread asks) bytes more
