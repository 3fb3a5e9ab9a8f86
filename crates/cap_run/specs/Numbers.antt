-- The run of a machine by the numbers of its objects (this profile's own).
use Rattle.std.specs.Prelude.{ℕ, Option, option_map, option_and_then}
use Rattle.cap_machine.specs.Helds.{Held}
use Rattle.cap_objects.specs.{Counts.Owners, declared.handouts.Handouts.Handouts, Extents.Objects, HandoutsIn.slot_numbered}
use Rattle.cap_run.specs.{declared.specials.Specials.Specials, Run.Run, RunOf.run_of}

-- the number of the object in a slot
abbrev pub number_at : Objects → ℕ → Option ℕ
number_at objects slot = option_map (λ object. object.number) (objects slot)

-- owners by their numbers
abbrev pub numbered : Objects → Owners → Owners
numbered objects owners key = option_and_then (number_at objects) (owners key)

-- present objects by their numbers, where an index tells the slot of each
abbrev pub by_number : (ℕ → Option ℕ) → Objects → Objects
by_number index objects number = option_and_then objects (index number)

-- the run that a machine's parts make up
abbrev pub numbered_run : Held → Specials → Handouts → Run
numbered_run held specials handouts = let run = run_of held specials handouts in record run {
  owners = numbered run.objects run.owners;
  objects = by_number (slot_numbered handouts) run.objects;
}
