use Rattle.cap_objects.specs.IndexIn.{at}
use Rattle.std.proofs.Common.{rules, arith, ap, sym, ◌∙◌}
use Rattle.std.proofs.lemmas.Option.{none-some, same_Some}
use Rattle.cap_objects.specs.{declared.objects.Object.Object, HandoutsIn.objects_of}
use Rattle.cap_objects.proofs.{KeptLemmas.at_number, MeetLemmas.{not-live, to_some}}
use Rattle.cap_objects.proofs.handouts.Handouts.live.Goals as goal

pub get-requires : goal.get-requires
get-requires c =
    let s = c.args.self.now in
    let o = at_number s.keeps s.count (objects_of s) (at s.numbers) (at s.bases) s.kept c.args.number c.in-Some.slot (sym c.in-Some.ensures) in
    to_some (objects_of s c.in-Some.slot) o.0 o.1

pub returns-in-Some-clause-ok : goal.returns-in-Some-clause-ok
returns-in-Some-clause-ok c =
    let s = c.args.self.now in
    let o = at_number s.keeps s.count (objects_of s) (at s.numbers) (at s.bases) s.kept c.args.number c.in-Some.slot (sym c.in-Some.ensures) in
    let is = same_Some o.0 c.get.result (sym o.1 ∙ c.get.ensures) in
    record { object = o.0; there = o.1; number = o.2; live = ap (λ (x : Object). x.freed) is ∙ search rules }

pub returns-in_default-clause-fault : goal.returns-in_default-clause-fault
returns-in_default-clause-fault c =
    let s = c.args.self.now in
    not-live s.keeps s.count (objects_of s) (at s.numbers) (at s.bases) s.kept c.args.number c.if-number-eq0.false
    (omega (arith, c.if-number-self.false)) c.slot_by.result (sym c.slot_by.ensures)
    (λ slot o is there. ap (λ (x : Object). x.freed) (same_Some o c.get.result (sym there ∙ ap (objects_of s) (same_Some slot c.in-Some.slot (sym is ∙ c.in-Some.is)) ∙ c.get.ensures)) ∙ search rules)

pub returns-in_default-2-clause-fault : goal.returns-in_default-2-clause-fault
returns-in_default-2-clause-fault c =
    let s = c.args.self.now in
    not-live s.keeps s.count (objects_of s) (at s.numbers) (at s.bases) s.kept c.args.number c.if-number-eq0.false
    (omega (arith, c.if-number-self.false)) c.slot_by.result (sym c.slot_by.ensures) (λ slot o is there. absurd (none-some slot (sym c.in_default.is ∙ is)))
