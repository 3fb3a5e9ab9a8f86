use Rattle.std.proofs.Common.{◌++◌, refl}
use Rattle.cap_streams.specs.Written.{◌⨾◌}
use Rattle.cap_texts.specs.TextLines.{says_line}
use Rattle.cap_run_report.proofs.object_steps.put_asked.Goals as goal

pub returns-clause-written : goal.returns-clause-written
unfolding says_line
returns-clause-written g c =
    let lines = c.put_asked_extent-at.ensures.written in
    let text = c.put_asked_text-at.ensures.written in (
      lines.0 ++ says_line text.0,
      (lines.0, lines.1, text.0, text.1, refl),
      lines.2 ⨾ (c.put-at.ensures.written ⨾ text.2 ⨾ c.put.ensures.written),
    )
