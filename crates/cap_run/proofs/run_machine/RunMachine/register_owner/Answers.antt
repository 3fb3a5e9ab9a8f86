use Rattle.std.proofs.Common.{sym, ◌∙◌}
use Rattle.cap_objects.specs.HandoutsIn.{objects_of}
use Rattle.cap_run.specs.Run.{register_key}
use Rattle.cap_run.proofs.ObjectLemmas.{owner-there, to_is_some}
use Rattle.cap_run.proofs.run_machine.RunMachine.register_owner.Goals as goal

pub object-requires : goal.object-requires
object-requires g c =
    let s = c.args.self.now in
    let o = owner-there s.machine s.specials (objects_of s.objects) s.specials.registers.sized.1 s.counted (register_key c.args.register) c.in-Some.slot
    (sym c.owner.ensures.owner ∙ c.in-Some.is) in
    to_is_some (objects_of s.objects c.in-Some.slot) o.0 o.1
