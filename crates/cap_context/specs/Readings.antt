-- What the code reads of lines with their numbers, as the definitions have it. All of it is this profile's own.
use Rattle.std.specs.Prelude.{ℕ, List}
use Rattle.std.specs.Borrow.{Bor}
use Rattle.cap_context.specs.Contexts.{Entry}

-- a line with its number
abbrev pub entry_of : ℕ × Bor (List ℕ) → Entry
entry_of entry = (entry.0, entry.1.now)
