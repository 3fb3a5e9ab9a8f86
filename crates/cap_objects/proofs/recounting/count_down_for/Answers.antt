use Rattle.cap_objects.specs.HandoutsIn.{objects_of}
use Rattle.cap_objects.proofs.RecountLemmas.{counted-down, recounted-none}
use Rattle.cap_objects.proofs.recounting.count_down_for.Goals as goal

pub returns-in-Some : goal.returns-in-Some
returns-in-Some c =
    let told = counted-down c.args.objects.now.slots.objects.items c.in-Some.slot (objects_of c.count_down.new.self)
    (c.requires.from c.in-Some.slot c.in-Some.is) c.count_down.ensures.set in
    record { moves = rw c.in-Some.is told.0; rest = told.1; same = c.count_down.ensures.rest; slots = c.count_down.ensures.slots }

pub returns-in_default-clause-rest : goal.returns-in_default-clause-rest
returns-in_default-clause-rest c = recounted-none c.args.objects.now.slots.objects.items
