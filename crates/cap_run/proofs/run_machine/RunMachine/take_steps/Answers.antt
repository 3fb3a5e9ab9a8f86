use Rattle.std.proofs.Common.{arith, sym, ◌∙◌}
use Rattle.cap_run.proofs.StepLineLemmas.{kept-after, makes-usual}
use Rattle.cap_run.proofs.run_machine.RunMachine.take_steps.Goals as goal

pub invariant_of-self : goal.invariant_of-self
invariant_of-self g c =
    let s = c.args.self.now in
    let alone = c.count.ensures.value in
    let none = c.if-count-ne0.false in
    let kept = kept-after s.machine c.take_steps.new.machine s.specials s.objects s.asks s.specials.registers.sized.1 s.counted c.kept.ensures.stored (sym alone ∙ none)
    c.take_steps.ensures.taken.0 c.take_steps.ensures.taken.2 in
    record {
      counted = kept.0;
      within = kept.1;
      few = omega (arith, alone, none);
      asked = s.asked;
    }

pub returns-clause-taken : goal.returns-clause-taken
returns-clause-taken g c =
    let s = c.args.self.now in
    let taken = c.take_steps.ensures.taken in (
      taken.0,
      taken.1,
      makes-usual s.machine c.take_steps.new.machine s.specials s.objects s.asks s.specials.registers.sized.1 s.counted c.kept.ensures.stored
          (sym c.count.ensures.value ∙ c.if-count-ne0.false) taken.0 taken.2,
    )
