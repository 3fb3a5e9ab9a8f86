use Rattle.cap_objects.specs.IndexIn.{at}
use Rattle.std.proofs.Common.{arith, subst}
use Rattle.cap_objects.specs.{HandoutsIn.objects_of, Indexes.IsLastAtOrBelow}
use Rattle.cap_objects.proofs.{KeptLemmas.at_base, MeetLemmas.{all-above, all-first, all-here, reached-here, to_some}}
use Rattle.cap_objects.proofs.handouts.Handouts.first_reaching.Goals as goal

pub get-requires : goal.get-requires
get-requires c =
    let s = c.args.self.now in
    let o = at_base s.keeps s.count (objects_of s) (at s.numbers) (at s.bases) s.kept c.in-Some.other c.in-Some.slot c.in-Some.ensures.1 in
    to_some (objects_of s c.in-Some.slot) o.0 o.1

pub returns-in-Some-clause-reached : goal.returns-in-Some-clause-reached
returns-in-Some-clause-reached c =
    let s = c.args.self.now in
    reached-here s.keeps s.count (objects_of s) (at s.numbers) (at s.bases) s.kept c.args.base c.in-Some.other c.in-Some.slot
    c.get.result c.in-Some.ensures c.get.ensures (omega (arith, c.if-base-get.true))

pub returns-in-Some-clause-all : goal.returns-in-Some-clause-all
returns-in-Some-clause-all c =
    let s = c.args.self.now in
    all-here s.keeps s.count (objects_of s) (at s.numbers) (at s.bases) s.kept c.args.base c.in-Some.other c.in-Some.slot
    c.get.result c.in-Some.ensures c.get.ensures (omega (arith, c.if-base-get.true))

pub returns-in_default-clause-all : goal.returns-in_default-clause-all
returns-in_default-clause-all c =
    let s = c.args.self.now in
    all-above s.keeps s.count (objects_of s) (at s.numbers) (at s.bases) s.kept c.args.base c.in-Some.other c.in-Some.slot
    c.get.result c.in-Some.ensures c.get.ensures (omega (arith, c.if-base-get.false))

pub returns-in_default-2-clause-all : goal.returns-in_default-2-clause-all
returns-in_default-2-clause-all c =
    let s = c.args.self.now in
    all-first s.keeps s.count (objects_of s) (at s.numbers) (at s.bases) s.kept c.args.base
    (subst (IsLastAtOrBelow (at s.bases) c.args.base) c.in_default.is c.last_to.ensures)
