-- A run at a moment: what its places hold, and which objects own them (this profile's own).
use Rattle.std.specs.Prelude.{ℕ, ◌+◌, ◌-◌, Bool, nat_lt, if◌then◌else◌}
use Rattle.cap_machine.specs.{declared.{limits.Limits.Limits, rules.Rules.Rules}, States.{State}}
use Rattle.cap_objects.specs.{Counts.Owners, declared.moments.Moment.Moment, Extents.Objects}
use Rattle.cap_run.specs.Harts.{Harts}
pub use Rattle.cap_run.specs.Keys.{first_special, register_key}

-- what is told of each place, where it is told of special registers by their numbers, with those of other harts behind them,
-- and of the others by their keys
abbrev pub with_specials : {A : Type 0} → (ℕ → A) → (ℕ → A) → ℕ → A
with_specials main special key = if nat_lt key first_special then main key else special (key - first_special)

-- a run: what each place holds; the slot of the object that owns each place; the present objects by their slots; how many
-- objects were handed out; whose registers are told; and what the limits are measured by
pub record Run : Type 0 where
  pub state : State
  pub owners : Owners
  pub objects : Objects
  pub count : ℕ
  pub harts : Harts
  pub rules : Rules
  pub limits : Limits
  pub roots : ℕ
  pub steps : ℕ
  pub is_named : ℕ → Bool
  pub granules : ℕ

-- when the next step is made
abbrev pub moment : Run → Moment
moment run = record { steps = run.steps + 1; hart_lines = run.harts.lines }
