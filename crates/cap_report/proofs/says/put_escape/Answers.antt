use Rattle.cap_streams.specs.Written.{◌⨾◌}
use Rattle.cap_report.proofs.says.put_escape.Goals as goal

pub returns-clause-written : goal.returns-clause-written
returns-clause-written c =
    let beyond = rw c.bounds.ensures.base at (rw c.bounds.ensures.top at c.put_beyond-at.ensures.written) in
    c.put-at.ensures.written ⨾ beyond ⨾ c.put_place-at.ensures.written ⨾ c.put.ensures.written
