-- Harts, and where a hart line moves what registers hold (this profile's own).
use Rattle.std.specs.Prelude.{ℕ, ◌+◌, ◌-◌, ◌*◌, ◌/◌, ◌%◌, Bool, ◌==◌, ◌||◌, max, nat_le, nat_lt, if◌then◌else◌}
use Rattle.cap_run.specs.Keys.{first_special}

-- a hart's number is below this one
abbrev pub most_harts : ℕ
most_harts = 65536

-- whose registers c0 to c31 and scr0 to scr31 are, which harts were named, and how many hart lines came
pub record Harts : Type 0 where
  pub current : ℕ
  pub is_named : ℕ → Bool
  pub lines : ℕ

-- before any line
abbrev pub no_harts : Harts
no_harts = record { current = 0; is_named = λ hart. hart == 0; lines = 0 }

-- after a hart line
abbrev pub harts_after : Harts → ℕ → Harts
harts_after harts hart = record { current = hart; is_named = λ other. (other == hart) || harts.is_named other; lines = harts.lines + 1 }

-- the key of a register of a hart that isn't the current one: c0 to c31 are its registers 0 to 31, scr0 to scr31 those from
-- 32 on
abbrev pub away_key : ℕ → ℕ → ℕ
away_key hart register = first_special + (64 * (hart + 1) + register)

-- that of the current hart's
abbrev pub near_key : ℕ → ℕ
near_key register = if nat_lt register 32 then register else first_special + (register - 32)

-- where what is at first_special and so many keys after a hart line was before it
abbrev pub special_from : ℕ → ℕ → ℕ → ℕ
special_from from to number =
    if nat_lt number 32 then away_key to (32 + number) else
    (if number / 64 == from + 1 then near_key (number % 64) else
    (if number / 64 == to + 1 then away_key from (number % 64) else first_special + number))

-- where what is at a key after a hart line was before it: the registers of the hart that was current go to keys of their own,
-- and those of the hart that then is come from theirs, if both are harts
abbrev pub came_from : ℕ → ℕ → ℕ → ℕ
came_from from to key =
    if from == to || nat_le most_harts (max from to) then key else
    (if nat_lt key 32 then away_key to key else
    (if nat_lt key first_special then key else special_from from to (key - first_special)))
