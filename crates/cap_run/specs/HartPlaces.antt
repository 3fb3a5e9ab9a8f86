-- The places of each hart (this profile's own).
use Rattle.std.specs.Prelude.{◌≡◌, ℕ, ◌+◌, ◌-◌, ◌≤◌, ◌<◌, Bool, true, false, ◌==◌, nat_lt, if◌then◌else◌, Option, Some, None}
use Rattle.cap_machine.specs.States.{granule_key}
use Rattle.cap_run_log.specs.declared.lines.RunPlace.{RunPlace, TheVariants.{General, Special, Granule}}
use Rattle.cap_run.specs.{Harts.{Harts, away_key}, RunChanges.place_key}

-- the key of a place, where a register is that of a hart which isn't the current one
abbrev pub away_place : ℕ → RunPlace → ℕ
away_place hart (General number) = away_key hart number
away_place hart (Special number) = away_key hart (32 + number)
away_place hart (Granule number) = granule_key number

-- the key of a place, where a register is that of any hart
abbrev pub place_in : Harts → ℕ → RunPlace → ℕ
place_in harts hart place = if hart == harts.current then place_key place else away_place hart place

-- the registers of a hart in order: c1 to c31 and scr0 to scr31 are 1 to 63
abbrev pub place_numbered : ℕ → RunPlace
place_numbered number = if nat_lt number 32 then General number else Special (number - 32)

-- the first hart from one on that was named
abbrev pub IsNextNamed : (ℕ → Bool) → ℕ → Option ℕ → Type 0
IsNextNamed is_named from None = (hart : ℕ) → from ≤ hart → is_named hart ≡ false
IsNextNamed is_named from (Some next) =
    (from ≤ next) × (is_named next ≡ true) × ((hart : ℕ) → from ≤ hart → hart < next → is_named hart ≡ false)
