-- What a judge of run logs is asked (this profile's own).
use Rattle.std.specs.Prelude.{◌≡◌, ◌≢◌, ℕ, List, Option, None, Some}
use Rattle.cap_ops.specs.declared.refusal.Refusal.TheVariants.{WrongResult}
use Rattle.cap_log.specs.{declared.kinds.Step.Step, Lines.Spells}
use Rattle.cap_log.specs.declared.lines.Line.TheVariants as lines
use Rattle.cap_machine.specs.Accounts.{row_in}
use Rattle.cap_judge.specs.{declared.verdict.Expected.Expected, Expectations.given_in}
use Rattle.cap_run.specs.declared.{asks.Asks.Asks, ends.RunRefusal.{RunRefusal, TheVariants.Usual}}
use Rattle.cap_run.specs.{Run.Run, RunChanges.account_in, RunChecks.usual_end}
use Rattle.cap_run_judge.specs.{declared.verdict.RunVerdict.{RunVerdict, TheVariants.No}, Turns.RunStage}
use Rattle.cap_turns.specs.Turns.{Due, Refused}

-- the `no` that stands whatever bytes follow, once a line is faulty
abbrev pub verdict_so_far : Due RunRefusal → Option RunVerdict
verdict_so_far (Refused line refusal text) = Some (No line refusal)
verdict_so_far due = None

-- what the rules give for the step of version 2 that a text spells, if it is refused for its result; and nothing for a text
-- that spells no such step
pub record GivesForText (asks : Asks) (run : Run) (text : List ℕ) (result : Option Expected) : Type 0 where
  pub given : (step : Step) → Spells text (lines.Step step) → usual_end asks run step ≡ Some (Usual WrongResult)
      → result ≡ given_in (row_in (account_in run) step)
  pub none : ((step : Step) → Spells text (lines.Step step) → ⊥) → result ≡ None

-- what is told of the faulty line: what the rules give for its text, if it is refused for its result; and else nothing
abbrev pub ExpectsBy : Asks → Run → Due RunRefusal → Option Expected → Type 0
ExpectsBy asks run (Refused line refusal text) result =
    (refusal ≡ Usual WrongResult → GivesForText asks run text result) × (refusal ≢ Usual WrongResult → result ≡ None)
ExpectsBy asks run due result = result ≡ None

abbrev pub ExpectsAt : RunStage → Option Expected → Type 0
ExpectsAt stage result = ExpectsBy stage.state.asks stage.state.run stage.due result
