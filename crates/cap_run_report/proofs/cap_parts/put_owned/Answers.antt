use Rattle.cap_streams.specs.Written.{◌⨾◌}
use Rattle.cap_run_report.specs.CapParts.{owner_number_line}
use Rattle.cap_run_report.proofs.cap_parts.put_owned.Goals as goal

pub returns-in-Some-clause-written : goal.returns-in-Some-clause-written
unfolding owner_number_line
returns-in-Some-clause-written c =
    let digits = rw c.from.ensures at c.put_decimal-at.ensures.text in
    rw c.in-Some.is (c.put-at.ensures.written ⨾ digits ⨾ c.put.ensures.written)
