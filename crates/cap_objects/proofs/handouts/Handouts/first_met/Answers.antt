use Rattle.cap_objects.specs.IndexIn.{at}
use Rattle.std.proofs.Common.{◌∙◌, sym, arith}
use Rattle.cap_objects.specs.HandoutsIn.{objects_of}
use Rattle.cap_objects.proofs.MeetLemmas.{first-met, none-met, past-other, slot-there, to_some}
use Rattle.cap_objects.proofs.handouts.Handouts.first_met.Goals as goal

pub returns-in-None : goal.returns-in-None
returns-in-None c =
    let s = c.args.self.now in
    none-met s.keeps s.count (objects_of s) (at s.numbers) (at s.bases) s.kept c.args.left_out c.args.live c.args.base c.up.from
    c.args.last c.up.invariant.reached c.up.invariant.above c.in-None.ensures

pub is_asked-requires : goal.is_asked-requires
is_asked-requires c =
    let s = c.args.self.now in
    let o = slot-there s.keeps s.count (objects_of s) (at s.numbers) (at s.bases) s.kept c.args.left_out c.args.live c.args.base
    c.up.from c.args.last c.up.invariant.reached c.up.invariant.above c.in-Some.other c.in-Some.slot c.in-Some.ensures in
    to_some (objects_of s c.in-Some.slot) o.0 o.1

pub returns-then-is_asked : goal.returns-then-is_asked
returns-then-is_asked c =
    let s = c.args.self.now in
    first-met s.keeps s.count (objects_of s) (at s.numbers) (at s.bases) s.kept c.args.left_out c.args.live c.args.base
    c.up.from c.args.last c.up.invariant.reached c.up.invariant.above c.in-Some.other c.in-Some.slot c.in-Some.ensures
    (λ o is. sym c.if-is_asked.true ∙ c.is_asked.ensures o is)

pub returns-then-other-last : goal.returns-then-other-last
returns-then-other-last c slot o is asked meets =
    let s = c.args.self.now in
    let past = past-other s.keeps s.count (objects_of s) (at s.numbers) (at s.bases) s.kept c.args.left_out c.args.live c.args.base
    c.up.from c.args.last c.up.invariant.reached c.up.invariant.above c.in-Some.other c.in-Some.slot c.in-Some.ensures
    (λ x there. sym c.if-is_asked.false ∙ c.is_asked.ensures x there) slot o is asked meets in
    omega (arith, past, meets.0, c.if-other-last.true)

pub up-preserved : goal.up-preserved
up-preserved c =
    let s = c.args.self.now in
    record {
      within = omega (arith, c.in-Some.ensures.1, c.if-other-last.false);
      reached = λ slot o is compared from. c.up.invariant.reached slot o is compared (omega (arith, c.in-Some.ensures.0));
      above = past-other s.keeps s.count (objects_of s) (at s.numbers) (at s.bases) s.kept c.args.left_out c.args.live c.args.base
          c.up.from c.args.last c.up.invariant.reached c.up.invariant.above c.in-Some.other c.in-Some.slot c.in-Some.ensures
          (λ x there. sym c.if-is_asked.false ∙ c.is_asked.ensures x there);
    }
