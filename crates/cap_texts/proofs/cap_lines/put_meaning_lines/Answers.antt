use Rattle.cap_streams.specs.Written.{◌⨾◌}
use Rattle.cap_texts.specs.CapLines.{meaning_lines, perms_line}
use Rattle.cap_texts.proofs.cap_lines.put_meaning_lines.Goals as goal

pub returns-clause-written : goal.returns-clause-written
unfolding meaning_lines perms_line
returns-clause-written c =
    let perms = rw (c.from.ensures, c.perm_view.ensures.value) at
    (c.put-at.ensures.written ⨾ c.put-at-2.ensures.written ⨾ c.put_hex-at.ensures.text ⨾ c.put-at-3.ensures.written) in
    let type = rw c.split.ensures.otype at c.put_type_line-at.ensures.written in
    let bounds = rw (c.bounds-base.ensures.base, c.bounds-base.ensures.top) at c.put_bounds_line.ensures.written in
    perms ⨾ type ⨾ bounds
