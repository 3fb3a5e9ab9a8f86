use Rattle.cap_streams.specs.Written.{◌⨾◌}
use Rattle.cap_run_report.specs.CapParts.{told_lines}
use Rattle.cap_run_report.proofs.cap_parts.put_held.Goals as goal

pub returns-clause-written : goal.returns-clause-written
unfolding told_lines
returns-clause-written c =
    c.put-at.ensures.written ⨾ c.put-at-2.ensures.written ⨾ c.put_run_place-at.ensures.text ⨾ c.put_told.ensures.written
