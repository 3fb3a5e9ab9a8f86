use Rattle.std.proofs.Common.{sym, ◌∙◌, arith}
use Rattle.cap_log.specs.{Lines.register_spelling, SpacelessLaws.{Lacks-register, register-from, register-within}}
use Rattle.cap_log.proofs.{Cuts.same_cut, PartLemmas.register-operand}
use Rattle.cap_log.proofs.parts.registers.RegisterFromPart.take.Goals as goal

pub returns-in_err-number-clause-none : goal.returns-in_err-number-clause-none
returns-in_err-number-clause-none g c = rw c.from_residual.ensures (λ a rest begins.
    c.in_err-number.ensures.none a rest ((register-within g.row.LEAST a begins.0).1, begins.1))

pub returns-then-number-clause-none : goal.returns-then-number-clause-none
returns-then-number-clause-none g c = λ a rest begins.
    let found = c.in_ok-number.ensures.some in
    let number = c.in_ok-number.number in
    let within = register-within g.row.LEAST a begins.0 in
    let cut = same_cut c.args.end (register_spelling number) (register_spelling a) c.in_ok-number.rest.now rest
    (Lacks-register c.args.end number c.requires found.0) (Lacks-register c.args.end a c.requires within.1) (sym found.1 ∙ begins.1) in
    let same = register-operand.one number a found.0 within.1 cut.0 in
    omega (arith, within.0, c.if-number.true)

pub returns-clause-some : goal.returns-clause-some
returns-clause-some g c =
    let found = c.in_ok-number.ensures.some in
    (register-from g.row.LEAST c.in_ok-number.number c.if-number.false found.0, found.1)
