use Rattle.std.proofs.Common.{sym, ◌∙◌}
use Rattle.cap_objects.specs.HandoutsIn.{objects_of}
use Rattle.cap_run.specs.{HartPlaces.place_in, Specials.harts_in}
use Rattle.cap_run.proofs.ObjectLemmas.{owner-there, to_is_some}
use Rattle.cap_run.proofs.run_machine.RunMachine.owner_in.Goals as goal

pub object-requires : goal.object-requires
object-requires g c =
    let s = c.args.self.now in
    let o = owner-there s.machine s.specials (objects_of s.objects) s.specials.registers.sized.1 s.counted
    (place_in (harts_in s.specials) c.args.hart c.args.place) c.in-Some.slot (sym c.slot_in.ensures.value ∙ c.in-Some.is) in
    to_is_some (objects_of s.objects c.in-Some.slot) o.0 o.1
