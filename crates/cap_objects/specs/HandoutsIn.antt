-- What `Handouts` are seen as (this profile's own).
use Rattle.std.specs.Prelude.{ℕ, Option}
use Rattle.cap_objects.specs.{declared.handouts.Handouts.Handouts, Extents.Objects, IndexIn.at, SlotsIn.{present_in, slots_in}}

-- the present objects by their slots
abbrev pub objects_of : Handouts → Objects
objects_of handouts = present_in handouts.slots

-- how many slots were made
abbrev pub slots_of : Handouts → ℕ
slots_of handouts = slots_in handouts.slots

-- the slot of the present object with a number, and of that with a base, if new extents are compared with its own
abbrev pub slot_numbered : Handouts → ℕ → Option ℕ
slot_numbered handouts = at handouts.numbers

abbrev pub slot_based : Handouts → ℕ → Option ℕ
slot_based handouts = at handouts.bases
