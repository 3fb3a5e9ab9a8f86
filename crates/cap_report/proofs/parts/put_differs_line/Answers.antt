use Rattle.cap_streams.specs.Written.{◌⨾◌}
use Rattle.cap_report.specs.Parts.{differs_line}
use Rattle.cap_report.proofs.parts.put_differs_line.Goals as goal

pub returns-clause-written : goal.returns-clause-written
unfolding differs_line
returns-clause-written c =
    c.put-at.ensures.written ⨾ c.put_different_rights-at.ensures.written ⨾ c.put_different_bounds-at.ensures.written ⨾ c.put.ensures.written
