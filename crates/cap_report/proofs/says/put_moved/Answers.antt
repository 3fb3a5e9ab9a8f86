use Rattle.cap_streams.specs.Written.{◌⨾◌}
use Rattle.cap_report.proofs.says.put_moved.Goals as goal

pub returns-clause-written : goal.returns-clause-written
returns-clause-written c =
    let range = rw c.range_of.ensures.start at (rw c.range_of.ensures.end at c.put_range.ensures.written) in
    rw c.from.ensures at c.put_number-at.ensures.written ⨾ c.put-at.ensures.written ⨾ c.put_place-at.ensures.written ⨾ c.put-at-2.ensures.written ⨾ range
