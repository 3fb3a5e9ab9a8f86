use Rattle.std.proofs.Common.{◌≡◌, ◌∙◌, ℕ, None, ap, arith, refl, sym}
use Rattle.cap_machine.specs.{Helds.Held}
use Rattle.cap_run.specs.{Run.register_key, RunOf.{run_owners, run_state}}
use Rattle.cap_run.proofs.AloneLemmas.{at_none, counted-alone, none-for, unowned, within-alone}
use Rattle.cap_run.proofs.{GranuleLemmas.recounted-same, OwnerLemmas.stepped}
use Rattle.cap_run.proofs.run_machine.RunMachine.write_alone.Goals as goal

pub invariant_of-self : goal.invariant_of-self
invariant_of-self g c =
    let s = c.args.self.now in
    let key = register_key c.args.target in
    let specials = c.put_at.new.specials in
    let before = unowned s.machine s.specials s.objects s.specials.registers.sized.1 s.counted c.requires.alone in
    let none : (other : ℕ) → run_owners c.count_step.new.self specials other ≡ None = λ other.
    ap (λ (h : Held). run_owners h specials other) c.count_step.ensures.held ∙ c.put_at.ensures.owners other
    ∙ at_none (run_owners s.machine s.specials) key _ before c.unowned_label.ensures.owner other in
    record {
      counted = counted-alone s.machine c.count_step.new.self s.specials specials s.objects s.specials.registers.sized.1 s.counted c.requires.alone none;
      within = within-alone s.machine c.count_step.new.self s.specials specials s.objects s.specials.registers.sized.1 s.counted c.requires.alone none;
      few =
          let steps = ap (λ (h : Held). h.steps) c.count_step.ensures.held in
          let same = c.put_at.ensures.rest.3 in
          omega (arith, s.few, steps, same);
      asked = s.asked;
    }

pub returns-clause-writes : goal.returns-clause-writes
returns-clause-writes g c =
    let s = c.args.self.now in
    let key = register_key c.args.target in
    let from = register_key c.args._source in
    let mid = c.put_at.new.machine in
    let specials = c.put_at.new.specials in
    let held = c.count_step.ensures.held in
    let owners = run_owners s.machine s.specials in
    let before = unowned s.machine s.specials s.objects s.specials.registers.sized.1 s.counted c.requires.alone in
    record {
      state = ap (λ (h : Held). run_state h specials) held ∙ c.put_at.ensures.state;
      owners = λ other. ap (λ (h : Held). run_owners h specials other) held ∙ c.put_at.ensures.owners other
          ∙ at_none owners key _ before c.unowned_label.ensures.owner other
          ∙ sym (at_none owners key _ before (none-for c.args.cap (owners from) (before from)) other);
      objects = recounted-same s.objects;
      rest = stepped s.machine mid c.count_step.new.self s.specials specials s.objects s.objects c.put_at.ensures.rest held refl c.put_at.ensures.harts;
    }
