use Rattle.cap_streams.specs.Written.{◌⨾◌}
use Rattle.cap_report.proofs.says.put_rounding.Goals as goal

pub returns-clause-written : goal.returns-clause-written
returns-clause-written c =
    let within = rw (c.asked_range.ensures.base, c.asked_range.ensures.top) at c.put_beyond-at.ensures.written in
    let beyond = rw (c.rounded_range.ensures.base, c.rounded_range.ensures.top) at within in
    c.put-at.ensures.written ⨾ rw c.address-base.ensures.value at beyond ⨾ c.put.ensures.written
