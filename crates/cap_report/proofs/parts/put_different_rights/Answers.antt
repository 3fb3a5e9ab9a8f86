use Rattle.cap_streams.specs.Written.{◌⨾◌}
use Rattle.cap_report.proofs.parts.put_different_rights.Goals as goal

pub returns-clause-written : goal.returns-clause-written
returns-clause-written c =
    let x = c.split-x.ensures in
    let y = c.split-y.ensures in
    let perms = rw (x.perms, y.perms) at c.put_where-at-2.ensures.written in
    let reserved = rw (x.reserved, y.reserved) at c.put_where-at-3.ensures.written in
    let flag = rw (x.flag, y.flag) at c.put_where-at-4.ensures.written in
    let otype = rw (x.otype, y.otype) at c.put_where.ensures.written in
    c.put_where-at.ensures.written ⨾ perms ⨾ reserved ⨾ flag ⨾ otype
