use Rattle.cap_streams.specs.Written.{◌⨾◌}
use Rattle.cap_run_report.proofs.cap_parts.put_run_place.Goals as goal

pub returns-in-General-clause-text : goal.returns-in-General-clause-text
returns-in-General-clause-text c = rw c.in-General.is c.put_place.ensures.written

pub returns-in-Granule-clause-text : goal.returns-in-Granule-clause-text
returns-in-Granule-clause-text c = rw c.in-Granule.is c.put_place-in-Granule.ensures.written

pub returns-in-Special-clause-text : goal.returns-in-Special-clause-text
returns-in-Special-clause-text c =
    let digits = rw c.from.ensures at c.put_decimal.ensures.text in
    rw c.in-Special.is (c.put-at.ensures.written ⨾ digits)
