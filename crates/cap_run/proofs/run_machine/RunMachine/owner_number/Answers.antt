use Rattle.std.proofs.Common.{sym, ◌∙◌}
use Rattle.cap_objects.specs.HandoutsIn.{objects_of}
use Rattle.cap_run.specs.RunChanges.{place_key}
use Rattle.cap_run.proofs.ObjectLemmas.{owner-there, to_is_some}
use Rattle.cap_run.proofs.run_machine.RunMachine.owner_number.Goals as goal

pub object-requires : goal.object-requires
object-requires g c =
    let s = c.args.self.now in
    let o = owner-there s.machine s.specials (objects_of s.objects) s.specials.registers.sized.1 s.counted (place_key c.args.place) c.in-Some.slot
    (sym c.owner_at.ensures.value ∙ c.in-Some.is) in
    to_is_some (objects_of s.objects c.in-Some.slot) o.0 o.1
