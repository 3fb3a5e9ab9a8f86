use Rattle.std.proofs.{Common.{◌≡◌, ℤ, Some, rules, subst, FitsSigned, w16}, lemmas.Int.to_z-of_z}
use Rattle.cap_ops.specs.{Accesses.access_checks, Checks.first_of, Refusals.refusal_of}
use Rattle.cap_machine.specs.Helds.{state_of}
use Rattle.cap_machine.proofs.MadeLemmas.{faulted_as}
use Rattle.cap_machine.proofs.machine.Machine.reach.Goals as goal

pub returns-in-Err-clause-outcome : goal.returns-in-Err-clause-outcome
returns-in-Err-clause-outcome g c =
    let old = c.args.self.now in
    let fault = c.in-Err.fault in
    let fits : FitsSigned w16 c.args.offset = search rules in
    let found : first_of (access_checks (state_of old c.args.authority) c.args.kind c.args.offset c.args.size) ≡ Some (refusal_of fault) =
    subst (λ (z : ℤ). first_of (access_checks (state_of old c.args.authority) c.args.kind z c.args.size) ≡ Some (refusal_of fault))
    (to_z-of_z w16 c.args.offset fits) (rw (c.register-authority.ensures.holds, c.number-2.ensures.number, c.number.ensures.number) at c.in-Err.ensures.outcome) in
    rw c.from.ensures (faulted_as old (g.O.Operands.step c.args.step.now) _ fault c.requires.row.1 (rw (c.requires.row.0) found))
