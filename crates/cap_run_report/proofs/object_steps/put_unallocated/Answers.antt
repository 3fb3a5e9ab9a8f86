use Rattle.std.proofs.Common.{◌∙◌}
use Rattle.cap_streams.specs.Written.{◌⨾◌}
use Rattle.cap_texts.specs.TextLines.{says_line}
use Rattle.cap_run_report.proofs.object_steps.put_unallocated.Goals as goal

pub returns-clause-written : goal.returns-clause-written
unfolding says_line
returns-clause-written g c =
    let count = rw (c.from-count.ensures ∙ c.count.ensures.value) at c.put_decimal_line-at.ensures.written in
    count ⨾ (c.put-at.ensures.written ⨾ c.put_unallocated_text-at.ensures.written ⨾ c.put.ensures.written)
