use Rattle.std.proofs.Common.{arith, length, ap}
use Rattle.cap_log.proofs.ElementLemmas.{few_digits}
use Rattle.cap_log.proofs.buffers.put_decimal.Goals as goal

pub returns-clause-short : goal.returns-clause-short
returns-clause-short c few =
    omega (arith, c.put.ensures.written.ends, few_digits c.args.number few, ap length c.format.ensures.text)
