use Rattle.std.proofs.Common.{is_some, Ok, Err, ap, refl, sym, ◌∙◌}
use Rattle.cap_objects.specs.HandoutsIn.{objects_of}
use Rattle.cap_ops.specs.declared.refusal.Refusal.TheVariants.{LimitPassed}
use Rattle.cap_run.specs.{declared.ends.{RunEnd.TheVariants.Refused, RunRefusal.TheVariants.{AlreadyFreed, Usual}}, RunOf.run_of}
use Rattle.cap_run.proofs.{AnswerLemmas.free-owner-answers, HandingLemmas.{limit-some, none_of}}
use Rattle.cap_run.proofs.ObjectLemmas.{owner-there, to_is_some, to_some_and}
use Rattle.cap_run.proofs.run_machine.RunMachine.free_owner.Goals as goal

pub object-freed-requires : goal.object-freed-requires
object-freed-requires g c =
    let s = c.args.self.now in
    let o = owner-there s.machine s.specials (objects_of s.objects) s.specials.registers.sized.1 s.counted c.args.register c.in-Some.slot
    (sym c.owner.ensures.owner ∙ c.in-Some.is) in
    to_is_some (objects_of s.objects c.in-Some.slot) o.0 o.1

pub free_slot-requires-clause-live : goal.free_slot-requires-clause-live
free_slot-requires-clause-live g c =
    let s = c.args.self.now in
    to_some_and (objects_of s.objects c.in-Some.slot) _ c.object-freed.result c.object-freed.ensures.there c.if-freed.false

pub returns-then-freed-clause-outcome : goal.returns-then-freed-clause-outcome
returns-then-freed-clause-outcome g c =
    let s = c.args.self.now in
    free-owner-answers s.machine s.machine s.specials s.specials s.objects s.objects s.specials.registers.sized.1 s.specials.registers.sized.1 s.counted s.counted s.asks s.asked
    s.within c.args.register (Err (Refused AlreadyFreed)) tt tt (
      c.in-Some.slot,
      sym c.owner.ensures.owner ∙ c.in-Some.is,
      to_some_and (objects_of s.objects c.in-Some.slot) _ c.object-freed.result c.object-freed.ensures.there c.if-freed.true,
    ) refl

pub returns-then-is_some-clause-outcome : goal.returns-then-is_some-clause-outcome
returns-then-is_some-clause-outcome g c =
    let s = c.args.self.now in
    free-owner-answers s.machine s.machine s.specials s.specials s.objects s.objects s.specials.registers.sized.1 s.specials.registers.sized.1 s.counted s.counted s.asks s.asked
    s.within c.args.register (Err (Refused (Usual LimitPassed))) tt tt (
      c.in-Some.slot,
      sym c.owner.ensures.owner ∙ c.in-Some.is,
      to_some_and (objects_of s.objects c.in-Some.slot) _ c.object-freed.result c.object-freed.ensures.there c.if-freed.false,
      limit-some (run_of s.machine s.specials s.objects) (sym (ap is_some c.step_limit.ensures.value) ∙ sym c.if-is_some.ensures),
    ) refl

pub returns-else-is_some-clause-outcome : goal.returns-else-is_some-clause-outcome
returns-else-is_some-clause-outcome g c =
    let s = c.args.self.now in
    let n = c.free_slot.new.self in
    free-owner-answers s.machine n.machine s.specials n.specials s.objects n.objects s.specials.registers.sized.1 n.specials.registers.sized.1 s.counted n.counted s.asks s.asked
    s.within c.args.register (Ok (tt {0})) (c.in-Some.slot, sym c.owner.ensures.owner ∙ c.in-Some.is, c.free_slot.ensures.frees)
    (sym c.step_limit.ensures.value ∙ none_of c.step_limit.result (sym c.if-is_some.ensures)) tt tt
