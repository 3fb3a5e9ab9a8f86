-- What the lines of logs of versions 1 and 2 are judged by, one at a time. All of it is this profile's own.
use Rattle.std.specs.Prelude.{◌==◌, if◌then◌else◌, not, ◌+◌, Bool, true, false, ◌∷◌, length}
use Rattle.cap_ops.specs.declared.refusal.Refusal.{Refusal, TheVariants.BadLine}
use Rattle.cap_ops.specs.Checks.{first_of}
use Rattle.cap_log.specs.{declared.lines.Line.{Line, TheVariants.{Version, Mode, Root, Step, End}}, Lines.{IsInRange, spelling}}
use Rattle.cap_log.specs.declared.lines.Mode.TheVariants.{Strict, Clear}
use Rattle.cap_log.specs.declared.lines.Mode as modes_module
use Rattle.cap_machine.specs.declared.rules.Rules.{Rules, TheVariants.{One, TwoStrict, TwoClear}}
use Rattle.cap_machine.specs.Accounts.{Account, is_new, limits_of, no_account, with_root, with_step}
use Rattle.cap_turns.specs.Turns.{Body, Due, Ended, First, Second, Stage, Turns}
use Rattle.cap_judge.specs.Logs.{has_form, header_lines, line_checks, named_by_line}

-- how far a log is read: the account that its lines lead to, and what the next line has to be
abbrev pub LogStage : Type 0
LogStage = Stage Account Refusal

-- nothing is read
abbrev pub unread : LogStage
unread = record { state = no_account One (limits_of One); due = First }

-- the version lines
abbrev pub is_version : Line → Bool
is_version (Version version) = true
is_version line = false

-- the mode lines
abbrev pub is_mode : Line → Bool
is_mode (Mode mode) = true
is_mode line = false

-- the rules of version 2 in a mode
abbrev pub rules_of : modes_module.Mode → Rules
rules_of Strict = TwoStrict
rules_of Clear = TwoClear

-- what a line leads to
abbrev pub account_with : Account → Line → Account
account_with account (Mode mode) = record account { rules = rules_of mode; limits = limits_of (rules_of mode) }
account_with account (Root place word) = with_root account place word
account_with account (Step step) = with_step account step
account_with account line = account

-- what the line after it has to be
abbrev pub next_due : Line → Due Refusal
next_due (Version version) = if version == 1 then Body else Second
next_due (End count) = Ended
next_due line = Body

-- by all these the lines are judged; one may want memory that names a granule for the first time
abbrev pub log_turns : Turns Line Account Refusal
log_turns = record {
  IsInRange = IsInRange;
  spelling = spelling;
  opens = is_version;
  sets_mode = is_mode;
  check = λ account line. first_of ((not (has_form account.rules line), BadLine) ∷ line_checks account line);
  after = account_with;
  next = next_due;
  wants = λ account line. is_new account (named_by_line account line);
  read = λ account. length (header_lines account.rules) + account.roots + account.steps;
  usual = λ refusal. refusal;
}
