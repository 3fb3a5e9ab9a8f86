use Rattle.cap_streams.specs.Written.{◌⨾◌}
use Rattle.cap_report.proofs.parts.put_different_bounds.Goals as goal

pub returns-clause-written : goal.returns-clause-written
returns-clause-written c =
    let x = c.split-x.ensures in
    let y = c.split-y.ensures in
    let ie = rw (x.ie, y.ie) at c.put_where-at.ensures.written in
    let e = rw (x.e, y.e) at c.put_where-at-2.ensures.written in
    let b = rw (x.b, y.b) at c.put_where-at-3.ensures.written in
    let t = rw (x.t, y.t) at c.put_where-at-4.ensures.written in
    let address = rw (x.address, y.address) at c.put_where.ensures.written in
    ie ⨾ e ⨾ b ⨾ t ⨾ address
