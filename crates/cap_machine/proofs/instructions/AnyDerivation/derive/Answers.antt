use Rattle.std.proofs.Common.{Err, subst}
use Rattle.std.proofs.lemmas.Result.{err_from_is_err_and}
use Rattle.cap_machine.specs.{Changes.result_in, Helds.{EndsBy, Held, state_of}, Steps.row_of}
use Rattle.cap_machine.proofs.MadeLemmas.{operation_faulted}
use Rattle.cap_machine.proofs.instructions.AnyDerivation.derive.Goals as goal

pub returns-in_err-given-clause-end : goal.returns-in_err-given-clause-end
returns-in_err-given-clause-end g c =
    let old = c.args.machine.now in
    let step = g.O.Operands.step c.args.self.now in
    let row = row_of (state_of old) step in
    let fault = c.in_err-given.field-0.0 in
    let is = err_from_is_err_and c.from_residual.result c.from_residual.ensures.1 in
    rw (is.1, is.2) (operation_faulted old step c.parts.result (c.parts.ensures.row (state_of old)) fault
    (subst (λ (held : Held). EndsBy held.rules row.checks (result_in row.writes) (Err fault)) c.machine.view_is c.in_err-given.ensures.ends))
