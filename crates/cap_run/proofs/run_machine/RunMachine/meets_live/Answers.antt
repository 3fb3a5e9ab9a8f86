use Rattle.std.proofs.Common.{None, subst, sym}
use Rattle.cap_objects.specs.{Handed.RefusesExtent, HandoutsIn.objects_of}
use Rattle.cap_run.proofs.AskedLemmas.{live-held, live-overlaps, live-room}
use Rattle.cap_run.proofs.run_machine.RunMachine.meets_live.Goals as goal

pub returns-in-None : goal.returns-in-None
returns-in-None g c =
    let s = c.args.self.now in sym (live-room s.machine s.specials s.objects s.asks s.asked c.args.base c.args.top c.in-None.ensures.none)

pub returns-in-Some-Overlaps : goal.returns-in-Some-Overlaps
returns-in-Some-Overlaps g c =
    let s = c.args.self.now in
    sym (live-overlaps s.machine s.specials s.objects s.asks s.asked c.args.base c.args.top c.in-Some-Overlaps.field-0-0
    (subst (RefusesExtent s.objects.keeps None (objects_of s.objects) c.args.base c.args.top) c.in-Some-Overlaps.field-0-is c.in-Some-Overlaps.ensures.some.1))

pub returns-in-Some-StillHeld : goal.returns-in-Some-StillHeld
returns-in-Some-StillHeld g c =
    let s = c.args.self.now in
    sym (live-held s.machine s.specials s.objects s.asks s.asked c.args.base c.args.top c.in-Some-StillHeld.field-0-0
    (subst (RefusesExtent s.objects.keeps None (objects_of s.objects) c.args.base c.args.top) c.in-Some-StillHeld.field-0-is c.in-Some-StillHeld.ensures.some.1))
