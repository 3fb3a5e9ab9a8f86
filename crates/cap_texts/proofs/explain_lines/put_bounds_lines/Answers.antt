use Rattle.cap_bounds.proofs.SoundTests.{is_sound-from}
use Rattle.cap_streams.specs.Written.{◌⨾◌}
use Rattle.cap_texts.specs.ExplainLines.{bounds_lines}
use Rattle.cap_texts.proofs.explain_lines.put_bounds_lines.Goals as goal

pub returns-clause-written : goal.returns-clause-written
unfolding bounds_lines
returns-clause-written c =
    let address = rw (c.from.ensures, c.split.ensures.address) at c.put_hex_line-at.ensures.written in
    let base = rw (c.from-2.ensures, c.bounds-base.ensures.base) at c.put_hex_line-at-2.ensures.written in
    let top = rw c.bounds-base.ensures.top at c.put_hex_line-at-3.ensures.written in
    let sound = rw (is_sound-from c.sound.result c.args.word.0 c.sound.ensures.sound) at c.put_answer_line.ensures.written in
    address ⨾ base ⨾ top ⨾ sound
