use Rattle.std.proofs.Common.{arith}
use Rattle.cap_streams.specs.Written.{Writes, ◌⨾◌}
use Rattle.cap_texts.specs.TextLines.{round_lines}
use Rattle.cap_texts.proofs.round_lines.round_text.Goals as goal

wrote : (c : goal.After-put_answer_line)
    → Writes 0 (round_lines c.args.rounded.now) c.args.buffer.now c.put_answer_line.new.buffer c.put_answer_line.result
wrote c = rw (c.from.ensures, c.from-2.ensures, c.from-3.ensures) at
    (c.put_hex_line-at.ensures.written ⨾ c.put_hex_line-at-2.ensures.written ⨾ c.put_decimal_line-at.ensures.written
    ⨾ c.put_decimal_line-at-2.ensures.written ⨾ c.put_answer_line.ensures.written)

pub returns-clause-lines : goal.returns-clause-lines
returns-clause-lines c = (wrote c).written

pub returns-clause-length : goal.returns-clause-length
returns-clause-length c = let ends = (wrote c).ends in omega (arith, ends)
