use Rattle.std.proofs.Common.{◌≡◌, ℕ, ◌≤◌, List, length, get_or, sym, ap, subst, ◌∙◌, nat_lt, arith, lt-ltb}
use Rattle.std.proofs.lemmas.{Bool.cond-true, List.get_or_default}
use Rattle.cap_word.specs.declared.word.Cap.{Cap}
use Rattle.tagmem.specs.Granules.{Granules}
use Rattle.cap_machine.specs.{Parents.IsSoundCap, Places.places_of, States.untagged_null}
use Rattle.cap_machine.proofs.machine.Machine.register.Goals as goal

-- A register holds what its place does.
register_at : (registers : List Cap) (memory : Granules) (number : ℕ) (other : Cap) → length registers ≡ 32 → number ≤ 31
    → get_or registers number other ≡ places_of registers memory number
register_at registers memory number other sized low =
    get_or_default registers number other untagged_null (omega arith)
    ∙ sym (cond-true (nat_lt number 32) _ _ (lt-ltb number 32 (omega arith)))

pub returns-clause-holds : goal.returns-clause-holds
returns-clause-holds g c =
    let machine = c.self.inside in
    rw (← c.self.view_is) (register_at machine.registers (g.M.TaggedStore.contents machine.memory) c.args.number _ c.self.invariant.sized
    c.requires)

pub returns-clause-sound : goal.returns-clause-sound
returns-clause-sound g c =
    let machine = c.self.inside in
    let memory = g.M.TaggedStore.contents machine.memory in
    subst IsSoundCap (sym (register_at machine.registers memory c.args.number _ c.self.invariant.sized c.requires)) (c.self.invariant.sound c.args.number)

pub returns-clause-zero : goal.returns-clause-zero
returns-clause-zero g c = λ null.
    let registers = c.self.inside.registers in
    let sized : length registers ≡ 32 = c.self.invariant.sized in
    get_or_default registers c.args.number _ untagged_null (omega arith)
    ∙ ap (λ (n : ℕ). get_or registers n untagged_null) null ∙ c.self.invariant.zero
