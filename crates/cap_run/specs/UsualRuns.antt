-- What lines mean in a run that logs have, too: what they mean in a log. All of it is this profile's own.
use Rattle.std.specs.Prelude.{◌≡◌, ◌≢◌, ◌≤◌, ℕ, Option, Some, None, option_map}
use Rattle.cap_ops.specs.{Checks.first_of, declared.refusal.Refusal.{Refusal, TheVariants.LimitPassed}}
use Rattle.cap_log.specs.declared.lines.Line.{Line}
use Rattle.cap_machine.specs.{Accounts.{Account, limits_of}, States.untagged_null}
use Rattle.cap_judge.specs.{Logs.line_checks, Turns.account_with}
use Rattle.cap_run_log.specs.UsualLines.{as_run}
use Rattle.cap_run.specs.Harts.{no_harts}
use Rattle.cap_run.specs.{declared.{asks.Asks.Asks, ends.RunRefusal.TheVariants.Usual}, Run.{Run, first_special}}
use Rattle.cap_run.specs.{RunChanges.{line_after, run_limits}, RunChecks.line_end}

-- the run with what an account says: no object was handed out, and the limits are those of runs
abbrev pub run_by : Account → Run
run_by account = record {
  state = account.state;
  owners = λ key. None;
  objects = λ number. None;
  count = 0;
  harts = no_harts;
  rules = account.rules;
  limits = run_limits;
  roots = account.roots;
  steps = account.steps;
  is_named = account.is_named;
  granules = account.granules;
}

-- an account of a log: its limits are those of its rules, and nothing but registers and granules holds anything
pub record IsOfLog (account : Account) : Type 0 where
  pub limits_are : account.limits ≡ limits_of account.rules
  pub holds_none : (key : ℕ) → first_special ≤ key → account.state key ≡ untagged_null

-- the first check of a line that fails in a log, after its header
abbrev pub log_refusal : Account → Line → Option Refusal
log_refusal account line = first_of (line_checks account line)

-- a line means in a run what it means in a log
pub record MeansTheSame (asks : Asks) (account : Account) (line : Line) : Type 0 where
  -- it is refused for the same reason, or by neither, unless a limit of logs is passed
  pub ends : log_refusal account line ≢ Some LimitPassed → line_end asks (run_by account) (as_run line) ≡ option_map Usual (log_refusal account line)
  -- it leads to the run with what the log's account then says
  pub leads : line_after (run_by account) (as_run line) ≡ run_by (account_with account line)
  pub stays : IsOfLog (account_with account line)
