-- What `Slots` are seen as (this profile's own).
use Rattle.std.specs.Prelude.{ℕ, length}
use Rattle.cap_objects.specs.{declared.slots.Slots.Slots, Extents.Objects, Indexes.object_at}

-- the present objects by their slots
abbrev pub present_in : Slots → Objects
present_in slots = object_at slots.objects.items

-- how many slots there are
abbrev pub slots_in : Slots → ℕ
slots_in slots = length slots.objects.items
