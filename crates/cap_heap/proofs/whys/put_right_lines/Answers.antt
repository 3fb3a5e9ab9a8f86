use Rattle.cap_streams.specs.Written.{◌⨾◌}
use Rattle.cap_heap.proofs.whys.put_right_lines.Goals as goal

pub returns-clause-written : goal.returns-clause-written
returns-clause-written c =
    let length = rw c.round_length.ensures.value at c.put_hex_line-at.ensures.written in
    let unit = rw c.alignment.ensures.value at c.put_hex_line.ensures.written in
    length ⨾ unit
