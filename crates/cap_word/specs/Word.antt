-- The word of a capability, as one number in the register layout.
use Rattle.std.specs.Prelude.{ℕ}

-- the word of NULL: otype 0x3ffff, IE 1, E 52 and 0 elsewhere (Sail CHERI-RISC-V: null_cap)
abbrev pub null_word : ℕ
null_word = 0x1fff_fc01_8004_0000_0000_0000_0000
