use Rattle.cap_streams.specs.Written.{◌⨾◌}
use Rattle.cap_report.proofs.says.put_address.Goals as goal

pub returns-clause-written : goal.returns-clause-written
returns-clause-written c =
    c.put_place-at.ensures.written ⨾ c.put-at.ensures.written ⨾ rw (c.from.ensures, c.address.ensures.value) at c.put_number.ensures.written
