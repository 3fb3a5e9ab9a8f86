-- What a judge of run logs takes that is handed lines (this profile's own).
use Rattle.std.specs.Prelude.{◌≡◌, ◌<◌, ℕ, List, []}
use Rattle.cap_run_judge.specs.{Readings.stage_of, Turns.run_turns}
use Rattle.capcheck_judge.specs.RunHandles.{RunJudgeIn}
use Rattle.cap_turns.specs.{Readings.Follows, Turns.IsAtFault, Verdicts.Lacks}

-- a judge was handed a line: it took the line, and none so far is faulty, or one is; or nothing has changed
pub record TakesRunLine (old : RunJudgeIn) (line : List ℕ) (state : ℕ) (new : RunJudgeIn) : Type 0 where
  pub taken : state < 3 → Follows run_turns (stage_of old) line (stage_of new)
  pub goes_on : state ≡ 0 → IsAtFault (stage_of new).due → ⊥
  pub at_fault : state ≡ 2 → IsAtFault (stage_of new).due
  pub unchanged : 2 < state → stage_of new ≡ stage_of old
  pub no_memory : state ≡ 3 → Lacks run_turns (stage_of old) line []
