use Rattle.std.proofs.Common.{ap, arith, ◌∙◌}
use Rattle.cap_objects.specs.HandoutsIn.{objects_of}
use Rattle.cap_run.specs.Numbers.{by_number}
use Rattle.cap_run.proofs.{RunNumberLemmas.index_in, ToldLemmas.{next-before, next-is, next-none}}
use Rattle.cap_run.proofs.run_machine.RunMachine.next_object.Goals as goal

pub returns-in-None-clause-none : goal.returns-in-None-clause-none
returns-in-None-clause-none g c number more =
    let s = c.args.self.now in next-none s.objects s.objects.kept.numbered c.args.from c.in-None.ensures.next number more

pub returns-in-Some-clause-some : goal.returns-in-Some-clause-some
returns-in-Some-clause-some g c =
    let s = c.args.self.now in
    let next = c.in-Some.ensures.next in
    let is = next-is s.objects s.objects.kept.numbered c.args.from c.in-Some.field-0-0 c.in-Some.slot c.object.result next c.object.ensures.there in (
      ap (by_number (index_in s.objects) (objects_of s.objects)) is.0 ∙ is.1,
      (let low = next.0 in let same = is.0 in omega (arith, low, same)),
      λ number more less. next-before s.objects s.objects.kept.numbered c.args.from c.in-Some.field-0-0 c.in-Some.slot next number more
          (let same = is.0 in omega (arith, less, same)),
    )
