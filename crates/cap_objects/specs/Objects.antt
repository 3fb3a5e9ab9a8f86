-- Intervals of addresses (this profile's own).
use Rattle.std.specs.Prelude.{ℕ, ◌+◌, ◌<◌, ◌≤◌, if◌then◌else◌}
use Rattle.cap_objects.specs.declared.objects.Object.{Object}

-- some address lies in both intervals
abbrev pub Share : ℕ → ℕ → ℕ → ℕ → Type 0
Share base top other_base other_top =
    (address : ℕ) × (base ≤ address) × (address < top) × (other_base ≤ address) × (address < other_top)

-- the top of an object's extent
abbrev pub top_of_extent : Object → ℕ
top_of_extent object = if object.long then object.last + 1 else object.base
