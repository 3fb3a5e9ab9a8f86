use Rattle.cap_streams.specs.Written.{◌⨾◌}
use Rattle.cap_report.proofs.says.put_other_bounds.Goals as goal

pub returns-clause-written : goal.returns-clause-written
returns-clause-written c =
    let recorded = rw (c.bounds.ensures.base, c.bounds.ensures.top) at c.put_range-at.ensures.written in
    let given = rw (c.bounds-2.ensures.base, c.bounds-2.ensures.top) at c.put_range.ensures.written in
    c.put-at.ensures.written ⨾ c.put-at-2.ensures.written ⨾ recorded ⨾ c.put-at-3.ensures.written ⨾ c.put-at-4.ensures.written ⨾ given
