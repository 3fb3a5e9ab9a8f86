use Rattle.std.proofs.{Common.{◌≡◌, ℕ, ℤ, ap, refl, rules, subst, sym, ◌∙◌, FitsSigned, w16}, lemmas.Int.to_z-of_z}
use Rattle.cap_word.specs.declared.word.Cap.{Cap}
use Rattle.cap_log.specs.declared.kinds.Step.{Step}
use Rattle.cap_ops.specs.declared.kinds.Kind.{Kind}
use Rattle.cap_machine.specs.{Changes.IsAccess, Helds.state_of, States.State, Steps.row_of}
use Rattle.cap_run.proofs.asked_steps.access_by.Goals as goal

-- the access of a stored capability goes through the authority
stored_access : (state : State) (step : Step) (source authority : ℕ) (offset : ℤ) (through : ℕ) (cap : Cap)
    → step ≡ Step.StoreCap (record { source = source; authority = authority; offset = offset }) → through ≡ authority → cap ≡ state source
    → IsAccess (row_of state step) through (Kind.StoreCap cap) offset 16 state
stored_access state step source authority offset through cap is there stored =
    subst (λ (s : Step). IsAccess (row_of state s) through (Kind.StoreCap cap) offset 16 state) (sym is)
    (subst (λ (r : ℕ). IsAccess (row_of state (Step.StoreCap (record { source = source; authority = authority; offset = offset }))) r (Kind.StoreCap cap) offset 16 state) (sym there)
    (subst (λ (c : Cap). IsAccess (row_of state (Step.StoreCap (record { source = source; authority = authority; offset = offset }))) authority (Kind.StoreCap c) offset 16 state) (sym stored)
    (refl, refl)))

pub returns-in-StoreCap-clause-some : goal.returns-in-StoreCap-clause-some
returns-in-StoreCap-clause-some g c =
    let state = state_of c.args.machine.now in
    let step = c.in-StoreCap.step in
    let by : ℤ → Type 0 = λ offset.
    IsAccess (row_of state c.args.step.now) c.number-authority.result (Kind.StoreCap c.register.result) offset 16 state in
    let offset = c.number-in-StoreCap.result in
    let fits : FitsSigned w16 offset = search rules in
    subst by (sym (to_z-of_z w16 offset fits))
    (subst by (sym c.number-in-StoreCap.ensures.number) (stored_access state c.args.step.now step.source step.authority step.offset
    c.number-authority.result c.register.result c.in-StoreCap.is c.number-authority.ensures.number
    (c.register.ensures.holds ∙ ap state c.number-stored.ensures.number)))
