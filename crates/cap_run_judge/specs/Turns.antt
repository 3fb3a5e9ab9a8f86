-- What the lines of run logs are judged by, one at a time. All of it is this profile's own.
use Rattle.std.specs.Prelude.{◌+◌, Bool, true, false}
use Rattle.cap_run_log.specs.declared.lines.RunLine.{RunLine}
use Rattle.cap_run_log.specs.declared.lines.RunLine.TheVariants as lines
use Rattle.cap_run_log.specs.RunLines.{IsRunLineInRange, run_spelling}
use Rattle.cap_turns.specs.Turns.{Body, Due, Ended, First, Second, Stage, Turns}
use Rattle.cap_run.specs.declared.{asks.Asks.Asks, ends.RunRefusal.{RunRefusal, TheVariants.Usual}}
use Rattle.cap_run.specs.{Run.Run, RunChanges.{line_after, no_run}, RunChecks.{line_end, line_wants}}

-- what is asked of a run log, and the run that its lines lead to
pub record Asked : Type 0 where
  pub asks : Asks
  pub run : Run

-- how far a run log is read
abbrev pub RunStage : Type 0
RunStage = Stage Asked RunRefusal

-- nothing is read
abbrev pub unread : Asks → RunStage
unread asks_are = record { state = record { asks = asks_are; run = no_run }; due = First }

-- the version line
abbrev pub is_version : RunLine → Bool
is_version lines.Version = true
is_version line = false

-- the mode lines
abbrev pub is_mode : RunLine → Bool
is_mode (lines.Mode mode) = true
is_mode line = false

-- what the line after a line has to be
abbrev pub next_due : RunLine → Due RunRefusal
next_due lines.Version = Second
next_due (lines.End count) = Ended
next_due line = Body

-- by all these the lines are judged
abbrev pub run_turns : Turns RunLine Asked RunRefusal
run_turns = record {
  IsInRange = IsRunLineInRange;
  spelling = run_spelling;
  opens = is_version;
  sets_mode = is_mode;
  check = λ asked line. line_end asked.asks asked.run line;
  after = λ asked line. record { asks = asked.asks; run = line_after asked.run line };
  next = next_due;
  wants = λ asked line. line_wants asked.run line;
  read = λ asked. asked.run.roots + asked.run.steps + asked.run.harts.lines + 2;
  usual = Usual;
}
