use Rattle.cap_streams.specs.Written.{◌⨾◌}
use Rattle.cap_report.proofs.says.put_unstored.Goals as goal

pub returns-clause-written : goal.returns-clause-written
returns-clause-written c =
    c.put_place-at.ensures.written ⨾ c.put-at.ensures.written ⨾ c.put-at-2.ensures.written ⨾ c.put_place-at-2.ensures.written
    ⨾ c.put-at-3.ensures.written ⨾ c.put.ensures.written
