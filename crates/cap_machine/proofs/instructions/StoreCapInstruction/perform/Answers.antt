use Rattle.std.proofs.Common.{◌∙◌, ap, get_or, rules, subst}
use Rattle.cap_machine.specs.Helds.{Held, IsKept}
use Rattle.cap_machine.proofs.MadeLemmas.{stored}
use Rattle.cap_machine.proofs.instructions.StoreCapInstruction.perform.Goals as goal

pub returns-clause-outcome : goal.returns-clause-outcome
returns-clause-outcome g c =
    let kept = subst (λ (held : Held). IsKept held.registers held.codes held.memory) (c.machine.view_is ∙ c.reach.ensures.same) c.machine.invariant in
    let code_is = ap (λ (held : Held). get_or held.codes c.args.self.source 0) (c.machine.view_is ∙ c.reach.ensures.same) in
    let out = c.in_ok-address.ensures.outcome in
    stored c.args.machine.now c.put_counted.new.self c.args.self
    c.put_counted.result (search rules) c.number-2.ensures.range (kept.coded c.args.self.source) out.0
    (rw (c.reach.ensures.same, c.register-stored.ensures.holds, c.number.ensures.number, c.number-2.ensures.number, out.1, code_is) at c.put_counted.ensures)
