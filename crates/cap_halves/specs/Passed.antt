-- What passes between C and the libraries for C, as the numbers and capabilities that it stands for (this
-- profile's own).
use Rattle.std.specs.Prelude.{ℕ, ◌+◌, ◌*◌, ◌^◌, Bool, false, not, ◌==◌}
use Rattle.cap_word.specs.{declared.word.Cap.Cap, Word.null_word}
use Rattle.cap_halves.specs.declared.values.{Capability.Capability, Halves.Halves}

-- the number that two halves of 64 bits make
unfoldable pub whole_of : Halves → ℕ
whole_of halves = halves.high * 2 ^ 64 + halves.low

-- what C means by a number that says yes or no: any but 0 is a yes
abbrev pub is_set : ℕ → Bool
is_set n = not (n == 0)

-- the capability that C passes or gets
abbrev pub cap_of : Capability → Cap
cap_of c = record { tag = is_set c.tag; word = record { 0 = whole_of c.word } }

-- NULL without a tag: what C gets where there is no capability to give
abbrev pub no_cap : Cap
no_cap = record { tag = false; word = record { 0 = null_word } }
