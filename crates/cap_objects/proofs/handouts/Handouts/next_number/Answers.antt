use Rattle.std.proofs.Common.{arith}
use Rattle.cap_objects.specs.IndexIn.{at}
use Rattle.cap_objects.specs.HandoutsIn.{objects_of}
use Rattle.cap_objects.proofs.{KeptLemmas.at_number, MeetLemmas.next-number}
use Rattle.cap_objects.proofs.handouts.Handouts.next_number.Goals as goal

pub first_from-requires : goal.first_from-requires
first_from-requires c number slot is =
    let s = c.args.self.now in
    let o = at_number s.keeps s.count (objects_of s) (at s.numbers) (at s.bases) s.kept number slot is in
    let few = s.kept.few slot o.0 o.1 in
    omega (arith, few, o.2)

pub returns : goal.returns
returns c =
    let s = c.args.self.now in
    record {
      next = next-number s.keeps s.count (objects_of s) (at s.numbers) (at s.bases) s.kept c.args.from c.first_from.result
          c.first_from.ensures;
    }
