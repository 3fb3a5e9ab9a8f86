use Rattle.std.proofs.Common.{arith}
use Rattle.cap_run_log.proofs.operands.SpecialPart.take.Goals as goal

pub returns-clause-some : goal.returns-clause-some
returns-clause-some c =
    let taken = c.in-Some-take_decimal.ensures.some in
    (omega (arith, taken.0.1), rw taken.1 at c.in-Some-strip_word.ensures.some)
