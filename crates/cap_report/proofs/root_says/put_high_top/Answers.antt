use Rattle.cap_streams.specs.Written.{◌⨾◌}
use Rattle.cap_report.proofs.root_says.put_high_top.Goals as goal

pub returns-clause-written : goal.returns-clause-written
returns-clause-written c =
    c.put-at.ensures.written ⨾ rw c.bounds.ensures.top at c.put_number-at.ensures.written ⨾ c.put.ensures.written
