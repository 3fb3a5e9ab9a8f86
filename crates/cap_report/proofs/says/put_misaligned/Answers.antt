use Rattle.cap_streams.specs.Written.{◌⨾◌}
use Rattle.cap_report.proofs.says.put_misaligned.Goals as goal

pub returns-in-Some-clause-written : goal.returns-in-Some-clause-written
returns-in-Some-clause-written c = rw c.in-Some.is
    (c.put-at.ensures.written ⨾ rw c.from.ensures at c.put_number-at.ensures.written ⨾ c.put-at-in-Some.ensures.written
    ⨾ rw c.from-in-Some.ensures at c.put_decimal.ensures.text)
