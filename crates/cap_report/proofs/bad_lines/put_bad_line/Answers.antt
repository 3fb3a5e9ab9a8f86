use Rattle.std.proofs.Common.{inr, refl, codes}
use Rattle.cap_streams.specs.Written.{◌⨾◌}
use Rattle.cap_texts.specs.TextLines.{text_line}
use Rattle.cap_report.proofs.bad_lines.put_bad_line.Goals as goal

pub returns-in-None-clause-written : goal.returns-in-None-clause-written
returns-in-None-clause-written c =
    let line = (c.put-length.ensures.written ⨾ c.put-end.ensures.written).written in (
      text_line (codes "expected") (codes "a line of version 1: a root, a step or the end line"),
      inr (rw line at c.in-None.ensures.none, refl),
      c.put_line.ensures.written,
    )
