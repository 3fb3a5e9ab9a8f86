-- What a judge takes that is handed lines (this profile's own).
use Rattle.std.specs.Prelude.{◌≡◌, ◌≢◌, ◌<◌, ℕ, List, [], None}
use Rattle.cap_turns.specs.{declared.stops.Stop.{Stop, TheVariants.{Cut, Fault, NoMemory}}, declared.stops.Taken.Taken, Readings.Follows}
use Rattle.cap_turns.specs.Verdicts.{Lacks}
use Rattle.cap_judge.specs.{Readings.{known_of, stage_of, verdict_so_far}, Turns.log_turns}
use Rattle.capcheck_judge.specs.{Handles.JudgeIn, declared.answers.LinesTaken.LinesTaken}

-- the state of a stop
abbrev pub state_at : Stop → ℕ
state_at Cut = 0
state_at Fault = 2
state_at NoMemory = 3

-- what a judge took of some lines, in numbers
abbrev pub lines_taken : Taken → LinesTaken
lines_taken taken = record { bytes = taken.count; state = state_at taken.stop }

-- a judge was handed a line: it took the line, and none so far is faulty, or one is; or it knows what it knew
pub record TakesLine (old : JudgeIn) (line : List ℕ) (state : ℕ) (new : JudgeIn) : Type 0 where
  pub taken : state < 3 → Follows log_turns (stage_of old) line (stage_of new)
  pub goes_on : state ≡ 0 → verdict_so_far (stage_of new).due ≡ None
  pub at_fault : state ≡ 2 → verdict_so_far (stage_of new).due ≢ None
  pub unchanged : 2 < state → known_of new ≡ known_of old
  pub no_memory : state ≡ 3 → Lacks log_turns (stage_of old) line []
