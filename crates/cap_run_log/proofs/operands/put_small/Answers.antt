use Rattle.std.proofs.{Common.{ap, arith, length}, lemmas.Fmt.decimal_digit}
use Rattle.cap_run_log.proofs.SmallLemmas.{two_digits, wrote}
use Rattle.cap_run_log.proofs.operands.put_small.Goals as goal

pub put-requires : goal.put-requires
put-requires c =
    let long = ap length (decimal_digit c.args.number c.if-number-lt10.true) in
    omega (arith, c.requires, long)

pub put-requires-then-number-lt100 : goal.put-requires-then-number-lt100
put-requires-then-number-lt100 c =
    let long = ap length (two_digits c.args.number (omega (arith, c.if-number-lt10.false)) c.if-number-lt100.true) in
    omega (arith, c.requires, long)

pub returns-then-number-lt10 : goal.returns-then-number-lt10
returns-then-number-lt10 c = wrote _ _ _ _ _ _ (decimal_digit c.args.number c.if-number-lt10.true) c.put.ensures.written

pub returns-then-number-lt100 : goal.returns-then-number-lt100
returns-then-number-lt100 c =
    wrote _ _ _ _ _ _ (two_digits c.args.number (omega (arith, c.if-number-lt10.false)) c.if-number-lt100.true)
    c.put-then-number-lt100.ensures.written
