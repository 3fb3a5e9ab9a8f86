-- The ranges of the operands that only steps of runs have. All of it is this profile's own.
use Rattle.std.specs.Prelude.{ℕ, ◌^◌, ◌<◌, ◌≤◌}
use Rattle.cap_log.specs.Ranges.{IsRegister, IsRegisterFrom}
use Rattle.cap_run_log.specs.declared.lines.RunRegister.{RunRegister, TheVariants.{General, Special}}

-- a general-purpose register from a least one on, or any special one: from c0 where it is read, from c1 where it is written
abbrev pub IsRunRegister : ℕ → RunRegister → Type 0
IsRunRegister least (General n) = IsRegisterFrom least n
IsRunRegister least (Special n) = IsRegister n

abbrev pub IsGranule : ℕ → Type 0
IsGranule n = n < 2 ^ 60

-- the number of a hart
abbrev pub IsHart : ℕ → Type 0
IsHart n = n < 2 ^ 16

-- the number of an object
abbrev pub IsObjectNumber : ℕ → Type 0
IsObjectNumber n = (1 ≤ n) × (n < 2 ^ 32)
