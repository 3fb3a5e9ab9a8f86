use Rattle.std.proofs.Common.{refl}
use Rattle.cap_streams.specs.Written.{◌⨾◌}
use Rattle.cap_texts.specs.TextLines.{says_line}
use Rattle.cap_run_report.proofs.object_steps.put_owning.Goals as goal

pub returns-clause-written : goal.returns-clause-written
unfolding says_line
returns-clause-written g c =
    let lines = c.put_owner-at.ensures.written in
    (_, (lines.0, lines.1, refl), lines.2 ⨾ (c.put-at.ensures.written ⨾ c.put_owns_text-at.ensures.written ⨾ c.put.ensures.written))
