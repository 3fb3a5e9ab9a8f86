-- What a machine's checks see: its rules, its state, and what the limits are measured by; and the checks of roots and
-- steps in their order (this profile's own).
use Rattle.std.specs.Prelude.{ℕ, ◌+◌, Bool, false, ◌==◌, ◌&&◌, ◌||◌, not, nat_le, if◌then◌else◌, List, [], ◌∷◌, ◌++◌}
use Rattle.std.specs.{Prelude.{Option, Some, None}, Option.option_map_or}
use Rattle.cap_word.specs.declared.word.Word.{Word}
use Rattle.cap_bounds.specs.Bounds.{is_sound}
use Rattle.cap_ops.specs.declared.refusal.Refusal.{Refusal}
use Rattle.cap_ops.specs.declared.refusal.Refusal.TheVariants.{PlaceTaken, UnsoundRoot, WrongResult, LimitPassed}
use Rattle.cap_log.specs.declared.{kinds.Step.Step, lines.Place.Place}
pub use Rattle.cap_machine.specs.Steps.{granule_of, named_by}
use Rattle.cap_machine.specs.{declared.{limits.Limits.Limits, rules.Rules.{Rules, TheVariants.One}}, Origins.origins_after, States.State}
use Rattle.cap_machine.specs.{States.{key_of, put, start, tagged}, Steps.{Row, row_of, row_by, agrees, state_with}}

-- what checks see: the rules and the limits, the state, each place's root, the numbers of roots and steps, and which
-- granules were named and how many
pub record Account : Type 0 where
  pub rules : Rules
  pub limits : Limits
  pub state : State
  pub origin : ℕ → Option Place
  pub roots : ℕ
  pub steps : ℕ
  pub is_named : ℕ → Bool
  pub granules : ℕ

-- the account before any root
abbrev pub no_account : Rules → Limits → Account
no_account rules_are limits_are = record {
  rules = rules_are;
  limits = limits_are;
  state = start [];
  origin = λ key. None;
  roots = 0;
  steps = 0;
  is_named = λ granule. false;
  granules = 0;
}

-- the greatest number of roots of a log
abbrev pub most_roots : ℕ
most_roots = 4096

-- the greatest number of distinct granules that roots, sc and store of a log name
abbrev pub most_granules : Rules → ℕ
most_granules One = 65536
most_granules rules = 1048576

-- the limits of a log
abbrev pub limits_of : Rules → Limits
limits_of rules = record { roots = most_roots; granules = most_granules rules }

-- the greatest number of steps
abbrev pub most_steps : ℕ
most_steps = 4294967295

-- the row of a step
abbrev pub row_in : Account → Step → Row
row_in account step = row_by account.rules (row_of account.state step)

-- whether a granule is named for the first time
abbrev pub is_new : Account → Option ℕ → Bool
is_new account named = option_map_or (λ granule. not (account.is_named granule)) named false

-- whether naming a granule passes the limit on granules
abbrev pub passes_granule_limit : Account → Option ℕ → Bool
passes_granule_limit account granule = is_new account granule && nat_le account.limits.granules account.granules

-- the account after a granule was named, or none
abbrev pub naming : Account → Option ℕ → Account
naming account None = account
naming account (Some granule) = record account {
  is_named = λ other. granule == other || account.is_named other;
  granules = if account.is_named granule then account.granules else account.granules + 1;
}

-- the account after one more root, which is its own origin
abbrev pub with_root : Account → Place → Word → Account
with_root account place word = record (naming account (granule_of place)) {
  state = put account.state (key_of place) (tagged word);
  origin = put account.origin (key_of place) (Some place);
  roots = account.roots + 1;
}

-- the account after one more step: each place has the origin of its parent
abbrev pub with_step : Account → Step → Account
with_step account step =
    let row = row_in account step in
    let named = naming account (named_by row) in
    let next = state_with account.state row.writes in
    record named { state = next; origin = origins_after account.origin account.state step next; steps = account.steps + 1 }

-- a root: its place holds no tagged capability, its word is sound, no limit is passed
abbrev pub root_checks : Account → Place → Word → List (Bool × Refusal)
root_checks account place word =
    ((account.state (key_of place)).tag, PlaceTaken)
    ∷ (not (is_sound word.0), UnsoundRoot)
    ∷ (nat_le account.limits.roots account.roots || passes_granule_limit account (granule_of place), LimitPassed) ∷ []

-- a step: its row's checks, then the recorded result, then the limits
abbrev pub step_checks : Account → Step → List (Bool × Refusal)
step_checks account step =
    let row = row_in account step in
    row.checks ++ (not (agrees row.writes row.records), WrongResult)
    ∷ (nat_le most_steps account.steps || passes_granule_limit account (named_by row), LimitPassed) ∷ []
