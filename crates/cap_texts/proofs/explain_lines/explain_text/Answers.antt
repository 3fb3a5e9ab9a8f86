use Rattle.std.proofs.Common.{arith}
use Rattle.cap_streams.specs.Written.{Writes, ◌⨾◌}
use Rattle.cap_texts.specs.ExplainLines.{explain_lines}
use Rattle.cap_texts.proofs.explain_lines.explain_text.Goals as goal

wrote : (c : goal.After-put_bounds_lines)
    → Writes 0 (explain_lines c.args.word.0 c.args.tag) c.args.buffer.now c.put_bounds_lines.new.buffer c.put_bounds_lines.result
wrote c =
    c.put_word_lines-at.ensures.written ⨾ c.put_permission_lines-at.ensures.written ⨾ c.put_mantissa_lines-at.ensures.written
    ⨾ c.put_bounds_lines.ensures.written

pub returns-clause-lines : goal.returns-clause-lines
returns-clause-lines c = (wrote c).written

pub returns-clause-length : goal.returns-clause-length
returns-clause-length c = let ends = (wrote c).ends in omega (arith, ends)
