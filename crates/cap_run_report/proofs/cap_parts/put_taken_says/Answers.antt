use Rattle.cap_streams.specs.Written.{◌⨾◌}
use Rattle.cap_texts.specs.TextLines.{says_line}
use Rattle.cap_run_report.proofs.cap_parts.put_taken_says.Goals as goal

pub returns-clause-written : goal.returns-clause-written
unfolding says_line
returns-clause-written c = c.put-at.ensures.written ⨾ c.put_place_text-at.ensures.written ⨾ c.put.ensures.written
