use Rattle.std.proofs.{Common.{◌≡◌, ◌∙◌, ℕ, Option, Some, None, refl, sym, ap, subst, arith}, Math.Path.fun_ext}
use Rattle.cap_word.specs.declared.word.Cap.{Cap}
use Rattle.cap_log.specs.Lines.{IsTarget}
use Rattle.cap_machine.specs.{Helds.{Held, state_of}, States.{State, put}}
use Rattle.cap_objects.specs.{Counts.{at_key}, Handed.held_of, HandoutsIn.objects_of}
use Rattle.cap_objects.proofs.BelowLemmas.{counts_few}
use Rattle.cap_run.specs.{declared.specials.Specials.Specials, Owned.{AreWithin}, RunOf.{run_owners, run_state}}
use Rattle.cap_run.proofs.{ObjectLemmas.{given-moves, main-state, put-same, slot-label, some_and, to_some_and, within-given}, OwnerLemmas.counts-to}
use Rattle.cap_run.proofs.run_machine.RunMachine.give.Goals as goal

-- a register that is given what it holds
put-back : (held : Held) (specials : Specials) (register : ℕ) (cap : Cap) → IsTarget register → cap ≡ state_of held register
    → put (run_state held specials) register cap ≡ run_state held specials
put-back held specials register cap target is =
    fun_ext (put-same (run_state held specials) register cap (is ∙ sym (main-state held specials register (omega (arith, target.1)))))

pub count_up-requires : goal.count_up-requires
count_up-requires g c =
    let s = c.args.self.now in
    let o = some_and (objects_of s.objects c.args.slot) _ c.requires.within in
    let few = counts_few (run_owners s.machine s.specials) (λ n. held_of (objects_of s.objects n)) c.args.slot s.counted in
    let held = ap held_of o.1 in
    to_some_and (objects_of s.objects c.args.slot) _ o.0 o.1 (omega (arith, few, held))

pub invariant_of-self : goal.invariant_of-self
invariant_of-self g c =
    let s = c.args.self.now in
    let o = some_and (objects_of s.objects c.args.slot) _ c.requires.within in
    let set = c.count_up.ensures.set o.0 o.1 in
    let after = objects_of c.count_up.new.self in
    let owners = run_owners s.machine s.specials in
    let after_is : (other : ℕ) → run_owners c.put_at.new.machine c.put_at.new.specials other ≡ at_key owners c.args.register (Some c.args.slot) other = λ other.
    c.put_at.ensures.owners other ∙ ap (λ (x : Option ℕ). at_key owners c.args.register x other) (slot-label c.args.slot) in
    let state_is = c.put_at.ensures.state ∙ put-back s.machine s.specials c.args.register c.register-cap.result c.requires.register c.register-cap.ensures.holds in
    record {
      counted = counts-to owners (run_owners c.put_at.new.machine c.put_at.new.specials) (λ n. held_of (objects_of s.objects n)) (λ n. held_of (after n))
          c.args.register None (Some c.args.slot) (Some c.args.slot) (omega (arith, c.requires.register.1)) s.counted (sym c.requires.unowned) refl
          (given-moves (objects_of s.objects) after c.args.slot o.0 o.1 set) after_is;
      within = subst (λ (state : State). AreWithin state (run_owners c.put_at.new.machine c.put_at.new.specials) after) (sym state_is)
          (within-given (run_state s.machine s.specials) owners (run_owners c.put_at.new.machine c.put_at.new.specials) (objects_of s.objects) after
          c.args.register c.args.slot o.0 o.1 o.2 set after_is s.within);
      few =
          let count = c.count_up.ensures.rest.0 in
          let same = c.put_at.ensures.rest.3 in
          omega (arith, s.few, count, same);
      asked = c.count_up.ensures.rest.1 ∙ s.asked;
    }

pub returns-clause-state : goal.returns-clause-state
returns-clause-state g c =
    let s = c.args.self.now in
    c.put_at.ensures.state ∙ put-back s.machine s.specials c.args.register c.register-cap.result c.requires.register c.register-cap.ensures.holds

pub returns-clause-owners : goal.returns-clause-owners
returns-clause-owners g c other =
    let s = c.args.self.now in
    c.put_at.ensures.owners other
    ∙ ap (λ (x : Option ℕ). at_key (run_owners s.machine s.specials) c.args.register x other) (slot-label c.args.slot)

pub returns-clause-rest : goal.returns-clause-rest
returns-clause-rest g c = c.put_at.ensures.rest
