use Rattle.std.proofs.Common.{is_some, Ok, Err, ap, refl, subst, sym, ◌∙◌}
use Rattle.cap_ops.specs.declared.refusal.Refusal.TheVariants.{LimitPassed}
use Rattle.cap_objects.specs.{Handed.HasNoLive, HandoutsIn.objects_of}
use Rattle.cap_run.specs.declared.ends.{RunEnd.TheVariants.Refused, RunRefusal.TheVariants.{AlreadyFreed, Usual}}
use Rattle.cap_run.specs.RunOf.{run_of}
use Rattle.cap_run.proofs.{AnswerLemmas.free-number-answers, HandingLemmas.{limit-some, none_of}}
use Rattle.cap_run.proofs.run_machine.RunMachine.free_by_number.Goals as goal

pub returns-in-Err-AlreadyFreed-clause-outcome : goal.returns-in-Err-AlreadyFreed-clause-outcome
returns-in-Err-AlreadyFreed-clause-outcome g c =
    let s = c.args.self.now in
    free-number-answers s.machine s.machine s.specials s.specials s.objects s.objects s.specials.registers.sized.1 s.specials.registers.sized.1 s.counted s.counted s.asks s.asked
    c.args.number (Err (Refused AlreadyFreed)) tt tt
    (subst (HasNoLive s.objects.count (objects_of s.objects) c.args.number) c.in-Err-AlreadyFreed.field-0-is c.in-Err-AlreadyFreed.ensures.fault) refl

pub returns-then-is_some-clause-outcome : goal.returns-then-is_some-clause-outcome
returns-then-is_some-clause-outcome g c =
    let s = c.args.self.now in
    free-number-answers s.machine s.machine s.specials s.specials s.objects s.objects s.specials.registers.sized.1 s.specials.registers.sized.1 s.counted s.counted s.asks s.asked
    c.args.number (Err (Refused (Usual LimitPassed))) tt tt
    ((c.in-Ok.slot, c.in-Ok.ensures.ok), limit-some (run_of s.machine s.specials s.objects) (sym (ap is_some c.step_limit.ensures.value) ∙ sym c.if-is_some.ensures)) refl

pub returns-else-is_some-clause-outcome : goal.returns-else-is_some-clause-outcome
returns-else-is_some-clause-outcome g c =
    let s = c.args.self.now in
    let n = c.free_slot.new.self in
    free-number-answers s.machine n.machine s.specials n.specials s.objects n.objects s.specials.registers.sized.1 n.specials.registers.sized.1 s.counted n.counted s.asks s.asked
    c.args.number (Ok (tt {0})) (c.in-Ok.slot, c.in-Ok.ensures.ok, c.free_slot.ensures.frees)
    (sym c.step_limit.ensures.value ∙ none_of c.step_limit.result (sym c.if-is_some.ensures)) tt tt
