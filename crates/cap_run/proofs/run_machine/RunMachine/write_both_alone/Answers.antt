use Rattle.std.proofs.Common.{◌≡◌, ◌∙◌, ℕ, None, ap, arith, refl, sym}
use Rattle.cap_machine.specs.{Helds.Held, States.{State, put}}
use Rattle.cap_objects.specs.Counts.{at_key}
use Rattle.cap_run.specs.{Owned.owner_for, Run.register_key, RunOf.{run_owners, run_state}}
use Rattle.cap_run.proofs.AloneLemmas.{at_none, counted-alone, none-for, unowned, within-alone}
use Rattle.cap_run.proofs.{GranuleLemmas.recounted-same, OwnerLemmas.{stepped, unstepped-twice}}
use Rattle.cap_run.proofs.run_machine.RunMachine.write_both_alone.Goals as goal

pub invariant_of-self : goal.invariant_of-self
invariant_of-self g c =
    let s = c.args.self.now in
    let first = register_key c.args.first in
    let second = register_key c.args.second in
    let specials = c.put_at-2.new.specials in
    let owners = run_owners s.machine s.specials in
    let before = unowned s.machine s.specials s.objects s.specials.registers.sized.1 s.counted c.requires.alone in
    let between : (other : ℕ) → run_owners c.put_at.new.machine c.put_at.new.specials other ≡ None = λ other.
    c.put_at.ensures.owners other ∙ at_none owners first _ before c.unowned_label.ensures.owner other in
    let none : (other : ℕ) → run_owners c.count_step.new.self specials other ≡ None = λ other.
    ap (λ (h : Held). run_owners h specials other) c.count_step.ensures.held ∙ c.put_at-2.ensures.owners other
    ∙ at_none (run_owners c.put_at.new.machine c.put_at.new.specials) second _ between c.unowned_label-2.ensures.owner other in
    record {
      counted = counted-alone s.machine c.count_step.new.self s.specials specials s.objects s.specials.registers.sized.1 s.counted c.requires.alone none;
      within = within-alone s.machine c.count_step.new.self s.specials specials s.objects s.specials.registers.sized.1 s.counted c.requires.alone none;
      few =
          let steps = ap (λ (h : Held). h.steps) c.count_step.ensures.held in
          let same = c.put_at.ensures.rest.3 in
          let same2 = c.put_at-2.ensures.rest.3 in
          omega (arith, s.few, steps, same, same2);
      asked = s.asked;
    }

pub returns-clause-writes : goal.returns-clause-writes
returns-clause-writes g c =
    let s = c.args.self.now in
    let first = register_key c.args.first in
    let second = register_key c.args.second in
    let mid = c.put_at-2.new.machine in
    let specials = c.put_at-2.new.specials in
    let held = c.count_step.ensures.held in
    let owners = run_owners s.machine s.specials in
    let before = unowned s.machine s.specials s.objects s.specials.registers.sized.1 s.counted c.requires.alone in
    let between : (other : ℕ) → run_owners c.put_at.new.machine c.put_at.new.specials other ≡ None = λ other.
    c.put_at.ensures.owners other ∙ at_none owners first _ before c.unowned_label.ensures.owner other in
    let first_from = register_key c.args._first_source in
    let second_from = register_key c.args._second_source in
    let one = owner_for c.args.first_cap (owners first_from) in
    let two = owner_for c.args.second_cap (owners second_from) in
    record {
      state = ap (λ (h : Held). run_state h specials) held ∙ c.put_at-2.ensures.state
          ∙ ap (λ (t : State). put t second c.args.second_cap) c.put_at.ensures.state;
      owners = λ other. ap (λ (h : Held). run_owners h specials other) held ∙ c.put_at-2.ensures.owners other
          ∙ at_none (run_owners c.put_at.new.machine c.put_at.new.specials) second _ between c.unowned_label-2.ensures.owner other
          ∙ sym (at_none (at_key owners first one) second two (at_none owners first one before (none-for c.args.first_cap (owners first_from) (before first_from)))
          (none-for c.args.second_cap (owners second_from) (before second_from)) other);
      objects = recounted-same s.objects;
      rest = stepped s.machine mid c.count_step.new.self s.specials specials s.objects s.objects
          (unstepped-twice s.machine c.put_at.new.machine mid c.put_at.ensures.rest c.put_at-2.ensures.rest) held refl
          (c.put_at-2.ensures.harts ∙ c.put_at.ensures.harts);
    }
