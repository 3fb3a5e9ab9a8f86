use Rattle.cap_streams.specs.Written.{◌⨾◌}
use Rattle.cap_report.proofs.says.put_types.Goals as goal

pub returns-clause-written : goal.returns-clause-written
returns-clause-written c =
    c.put_place-at.ensures.written ⨾ c.put-at.ensures.written ⨾ rw (c.from.ensures, c.object_type.ensures.value) at c.put_number-at.ensures.written
    ⨾ c.put-at-2.ensures.written ⨾ c.put_place-at-2.ensures.written ⨾ c.put-at-3.ensures.written
    ⨾ rw (c.from-2.ensures, c.address.ensures.value) at c.put_number.ensures.written
