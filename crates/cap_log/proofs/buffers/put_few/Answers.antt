use Rattle.std.proofs.{Common.{ap, arith, length}, lemmas.Fmt.decimal_digit}
use Rattle.cap_log.proofs.FewLemmas.{two, three, four}
use Rattle.cap_log.proofs.buffers.put_few.Goals as goal

pub put-requires : goal.put-requires
put-requires c = omega (arith, c.requires.room, ap length (decimal_digit c.args.number c.if-number-lt10.true))

pub put-requires-then-number-lt100 : goal.put-requires-then-number-lt100
put-requires-then-number-lt100 c = omega (arith, c.requires.room, ap length (two c.args.number (omega arith) (omega arith)))

pub put-requires-then-number-lt1000 : goal.put-requires-then-number-lt1000
put-requires-then-number-lt1000 c = omega (arith, c.requires.room, ap length (three c.args.number (omega arith) (omega arith)))

pub put-requires-else-number-lt1000 : goal.put-requires-else-number-lt1000
put-requires-else-number-lt1000 c = omega (arith, c.requires.room, ap length (four c.args.number (omega arith) c.requires.small))

pub returns-then-number-lt10 : goal.returns-then-number-lt10
returns-then-number-lt10 c = rw (decimal_digit c.args.number c.if-number-lt10.true, ← c.digit.ensures) c.put.ensures.written

pub returns-then-number-lt100 : goal.returns-then-number-lt100
returns-then-number-lt100 c =
    rw (two c.args.number (omega arith) (omega arith), ← c.digit-then-number-lt100.ensures, ← c.digit-then-number-lt100-2.ensures)
    c.put-then-number-lt100.ensures.written

pub returns-then-number-lt1000 : goal.returns-then-number-lt1000
returns-then-number-lt1000 c =
    rw (
      three c.args.number (omega arith) (omega arith),
      ← c.digit-then-number-lt1000.ensures,
      ← c.digit-then-number-lt1000-2.ensures,
      ← c.digit-then-number-lt1000-3.ensures,
    ) c.put-then-number-lt1000.ensures.written

pub returns-else-number-lt1000 : goal.returns-else-number-lt1000
returns-else-number-lt1000 c =
    rw (
      four c.args.number (omega arith) c.requires.small,
      ← c.digit-else-number-lt1000.ensures,
      ← c.digit-else-number-lt1000-2.ensures,
      ← c.digit-else-number-lt1000-3.ensures,
      ← c.digit-else-number-lt1000-4.ensures,
    ) c.put-else-number-lt1000.ensures.written
