use Rattle.std.proofs.Common.{None, inl, refl, subst, sym, ◌∙◌}
use Rattle.std.specs.Option.{option_map_or}
use Rattle.cap_objects.specs.{Handed.HasNoLive, HandoutsIn.objects_of}
use Rattle.cap_run.specs.declared.ends.{RunEnd.TheVariants.Refused, RunRefusal.TheVariants.AlreadyFreed}
use Rattle.cap_run.specs.{Numbers.numbered_run, ObjectSteps.object_refusal, RunChecks.{growth_end, number_end}, RunSteps.{or_later, step_limit}}
use Rattle.cap_run.proofs.{AnswerLemmas.{widen-answers, widen-err}, EndLemmas.{first, refusal-number}, HandingLemmas.match_none}
use Rattle.cap_run.proofs.run_machine.RunMachine.widen.Goals as goal

pub returns-in-Some-clause-outcome : goal.returns-in-Some-clause-outcome
returns-in-Some-clause-outcome g c =
    let s = c.args.self.now in
    let run = numbered_run s.machine s.specials s.objects in
    let w = (run.state c.args.register).word.0 in (
      first (object_refusal run c.args.register) (or_later (number_end run c.args.number)
          (or_later (option_map_or (growth_end s.asks run c.args.number w) (run.objects c.args.number) None) (step_limit run))) c.in-Some.refusal
          (refusal-number s.machine s.specials s.objects s.specials.registers.sized.1 s.counted s.asks s.asked c.args.register ∙ sym c.object_refusal.ensures ∙ c.in-Some.is),
      refl,
    )

pub returns-in-Err-AlreadyFreed-clause-outcome : goal.returns-in-Err-AlreadyFreed-clause-outcome
returns-in-Err-AlreadyFreed-clause-outcome g c =
    let s = c.args.self.now in
    widen-err s.machine s.machine s.specials s.specials s.objects s.objects s.specials.registers.sized.1 s.specials.registers.sized.1 s.counted s.counted s.asks s.asked
    c.args.register c.args.number (Refused AlreadyFreed) (match_none _ _ _ (sym c.object_refusal.ensures ∙ c.in_default.is) (inl
    (subst (HasNoLive s.objects.count (objects_of s.objects) c.args.number) c.in-Err-AlreadyFreed.field-0-is c.in-Err-AlreadyFreed.ensures.fault))) refl

pub returns-in-Ok-clause-outcome : goal.returns-in-Ok-clause-outcome
returns-in-Ok-clause-outcome g c =
    let s = c.args.self.now in
    let n = c.widen_for.new.self in
    let e = c.widen_for.ensures in
    widen-answers s.machine n.machine s.specials n.specials s.objects n.objects s.specials.registers.sized.1 n.specials.registers.sized.1 s.counted n.counted s.asks s.asked
    c.args.register c.args.number c.in-Ok.slot c.widen_for.result c.in-Ok.ensures.ok (sym c.object_refusal.ensures ∙ c.in_default.is) e.ok e.few e.room e.end e.err
