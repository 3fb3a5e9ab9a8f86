use Rattle.cap_streams.specs.Written.{◌⨾◌}
use Rattle.cap_texts.specs.TextLines.{text_line}
use Rattle.cap_texts.proofs.shown_bytes.put_shown_text.Goals as goal

pub returns-clause-written : goal.returns-clause-written
unfolding text_line
returns-clause-written c = c.put-at.ensures.written ⨾ c.put-at-2.ensures.written ⨾ c.put_shown-at.ensures.written ⨾ c.put.ensures.written
