use Rattle.std.proofs.Common.{◌≡◌, ◌+◌, ◌<◌, Some, sym, ◌∙◌, refl, rules, subst, true, false, eq-eqb, ne_eqb}
use Rattle.cap_ops.specs.{declared.refusal.Refusal.TheVariants.LimitPassed, Checks.first_of}
use Rattle.cap_log.specs.declared.kinds.Step.TheVariants.{Load}
use Rattle.cap_machine.specs.{Accounts.most_steps, Changes.last_checks, Helds.{Held, Makes}}
use Rattle.cap_machine.proofs.MadeLemmas.{loaded_value, load_refused, value_read}
use Rattle.cap_machine.proofs.instructions.LoadInstruction.perform.Goals as goal

pub returns-then-number-recorded-clause-outcome : goal.returns-then-number-recorded-clause-outcome
returns-then-number-recorded-clause-outcome g c =
    let old = c.args.machine.now in
    let out = c.in_ok-address.ensures.outcome in
    let read = value_read old c.args.self _ _ out.1 (rw (c.size-size.ensures.size, c.reach.ensures.same) at c.value-number.ensures.value) in
    rw c.reach.ensures.same (load_refused old c.args.self false _ out.0 (ne_eqb c.args.self.datum.value _ (λ e. c.if-number-recorded.true (read ∙ sym (c.value-recorded.ensures.value ∙ e)))) refl)

pub returns-then-machine-ge-MOST_STEPS-clause-outcome : goal.returns-then-machine-ge-MOST_STEPS-clause-outcome
returns-then-machine-ge-MOST_STEPS-clause-outcome g c =
    let old = c.args.machine.now in
    let out = c.in_ok-address.ensures.outcome in
    let read = value_read old c.args.self _ _ out.1 (rw (c.size-size.ensures.size, c.reach.ensures.same) at c.value-number.ensures.value) in
    rw c.reach.ensures.same (load_refused old c.args.self true _ out.0 (eq-eqb c.args.self.datum.value _ (sym (c.if-number-recorded.false ∙ c.value-recorded.ensures.value) ∙ read))
    (subst (λ (held : Held). first_of (last_checks held true) ≡ Some LimitPassed) (c.machine.view_is ∙ c.reach.ensures.same) (search rules)))

pub returns-clause-outcome : goal.returns-clause-outcome
returns-clause-outcome g c =
    let old = c.args.machine.now in
    let out = c.in_ok-address.ensures.outcome in
    let read = value_read old c.args.self _ _ out.1 (rw (c.size-size.ensures.size, c.reach.ensures.same) at c.value-number.ensures.value) in
    subst (λ (held : Held). Makes old (Load c.args.self) (record held { steps = held.steps + 1 })) (sym (c.machine.view_is ∙ c.reach.ensures.same))
    (loaded_value old c.args.self out.0 (sym (c.if-number-recorded.false ∙ c.value-recorded.ensures.value) ∙ read)
    (subst (λ (held : Held). held.steps < most_steps) (c.machine.view_is ∙ c.reach.ensures.same) c.if-machine-ge-MOST_STEPS.false))
