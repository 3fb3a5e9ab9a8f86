use Rattle.std.proofs.Common.{IfSome, IfNone, subst, sym}
use Rattle.cap_log.specs.{Lines.{IsInRange, spelling}, Parts.{Begins, BeginsWithNone}}
use Rattle.cap_log.proofs.Shapes.{no_head}
use Rattle.cap_log.proofs.readers.take_line.Goals as goal

pub returns-in_err-head-clause-none : goal.returns-in_err-head-clause-none
returns-in_err-head-clause-none c = rw c.from_residual.ensures (no_head c.args.bytes.now c.in_err-head.ensures.none)

pub returns-clause-some : goal.returns-clause-some
returns-clause-some c = subst (λ b. IfSome c.take_operands.result (λ p. Begins IsInRange spelling 10 b p.0 p.1.now))
    (sym c.in_ok-head.ensures.some.1) c.take_operands.ensures.some

pub returns-clause-none : goal.returns-clause-none
returns-clause-none c = subst (λ b. IfNone c.take_operands.result (BeginsWithNone IsInRange spelling 10 b))
    (sym c.in_ok-head.ensures.some.1) c.take_operands.ensures.none
