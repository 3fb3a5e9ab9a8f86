use Rattle.cap_streams.specs.Written.{◌⨾◌}
use Rattle.cap_run_report.specs.CapParts.{cap_lines}
use Rattle.cap_run_report.proofs.cap_parts.put_told.Goals as goal

pub returns-clause-written : goal.returns-clause-written
unfolding cap_lines
returns-clause-written c =
    c.put-at.ensures.written ⨾ c.put_flag-at.ensures.written ⨾ c.put-at-2.ensures.written ⨾ c.put_hex-at.ensures.text
    ⨾ c.put-at-3.ensures.written ⨾ c.put_meaning_lines.ensures.written
