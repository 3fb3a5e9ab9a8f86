-- The keys of places (this profile's own).
use Rattle.std.specs.Prelude.{ℕ, ◌+◌, ◌^◌}
use Rattle.cap_run_log.specs.declared.lines.RunRegister.{RunRegister, TheVariants.{General, Special}}

-- the key of scr0; that of a general-purpose register is its number, and that of a granule its number plus 32
abbrev pub first_special : ℕ
first_special = 2 ^ 60 + 32

-- the key of a register of the current hart
abbrev pub register_key : RunRegister → ℕ
register_key (General number) = number
register_key (Special number) = first_special + number
