-- What an `Index` is seen as (this profile's own).
use Rattle.std.specs.Prelude.{ℕ, Option}
use Rattle.cap_objects.specs.{declared.index.Index.Index, Blocks.find_in}

-- the slot of each key
abbrev pub at : Index → ℕ → Option ℕ
at index key = find_in key index.blocks.items
