use Rattle.std.proofs.Common.{ap, arith, sym, ◌∙◌}
use Rattle.cap_objects.specs.HandoutsIn.{objects_of}
use Rattle.cap_run.specs.Numbers.{by_number}
use Rattle.cap_run.proofs.{RunNumberLemmas.index_in, ToldLemmas.{next-is, next-none, next-other}}
use Rattle.cap_run.proofs.run_machine.RunMachine.object_numbered.Goals as goal

pub returns-in-None : goal.returns-in-None
returns-in-None g c =
    let s = c.args.self.now in
    record { value = sym (next-none s.objects s.objects.kept.numbered c.args.number c.in-None.ensures.next c.args.number (omega arith)) }

pub returns-then-found-number : goal.returns-then-found-number
returns-then-found-number g c =
    let s = c.args.self.now in
    record { value = sym (next-other s.objects s.objects.kept.numbered c.args.number c.in-Some.found c.in-Some.slot c.in-Some.ensures.next c.if-found-number.true) }

pub returns-else-found-number : goal.returns-else-found-number
returns-else-found-number g c =
    let s = c.args.self.now in
    let is = next-is s.objects s.objects.kept.numbered c.args.number c.in-Some.found c.in-Some.slot c.object.result c.in-Some.ensures.next c.object.ensures.there in
    record { value = sym (ap (by_number (index_in s.objects) (objects_of s.objects)) (sym c.if-found-number.false) ∙ is.1) }
