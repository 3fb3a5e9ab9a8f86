-- Which sizes an access has.
use Rattle.std.specs.Prelude.{ℕ, Bool, ◌==◌, ◌||◌}
use Rattle.cap_ops.specs.declared.kinds.Kind.{Kind, TheVariants.{LoadData, StoreData, LoadCap, StoreCap}}

-- data have 1, 2, 4 or 8 bytes
abbrev pub is_data_size : ℕ → Bool
is_data_size size = size == 1 || size == 2 || size == 4 || size == 8

-- an access of this kind may have this size: capabilities have 16 bytes
abbrev pub size_fits : Kind → ℕ → Bool
size_fits LoadData size = is_data_size size
size_fits StoreData size = is_data_size size
size_fits LoadCap size = size == 16
size_fits (StoreCap stored) size = size == 16
