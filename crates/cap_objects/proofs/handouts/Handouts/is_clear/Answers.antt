use Rattle.cap_objects.specs.IndexIn.{at}
use Rattle.std.proofs.Common.{subst, arith}
use Rattle.cap_objects.specs.{HandoutsIn.objects_of, Indexes.IsLastAtOrBelow}
use Rattle.cap_objects.proofs.{KeptLemmas.at_base, MeetLemmas.{none-at-all, none-below, to_some}}
use Rattle.cap_objects.proofs.handouts.Handouts.is_clear.Goals as goal

pub get-requires : goal.get-requires
get-requires c =
    let s = c.args.self.now in
    let o = at_base s.keeps s.count (objects_of s) (at s.numbers) (at s.bases) s.kept c.in-Some.field-0-0 c.in-Some.slot c.in-Some.ensures.1 in
    to_some (objects_of s c.in-Some.slot) o.0 o.1

pub returns-in_default : goal.returns-in_default
returns-in_default c is =
    let s = c.args.self.now in
    none-below s.keeps s.count (objects_of s) (at s.numbers) (at s.bases) s.kept c.args.last c.in-Some.field-0-0 c.in-Some.slot
    c.get.result c.in-Some.ensures c.get.ensures c.args.base (omega (arith, c.if-base-get.false))

pub returns-in_default-2 : goal.returns-in_default-2
returns-in_default-2 c is =
    let s = c.args.self.now in
    none-at-all s.keeps s.count (objects_of s) (at s.numbers) (at s.bases) s.kept c.args.last c.args.base
    (subst (IsLastAtOrBelow (at s.bases) c.args.last) c.in_default.is c.last_to.ensures)
