use Rattle.std.proofs.Common.{◌∙◌, sym}
use Rattle.cap_report.proofs.says.put_request.Goals as goal

pub returns-then-lies_inside-clause-written : goal.returns-then-lies_inside-clause-written
returns-then-lies_inside-clause-written c =
    let asked = c.asked_range-asked.ensures in let range = c.rounded_range-range.ensures in let base = c.address-base.ensures.value in
    let inside = sym (rw (asked.base, asked.top, base) at c.lies_inside.ensures.value) ∙ c.if-lies_inside.true in
    rw inside (rw (range.base, range.top, base) at c.put_escape.ensures.written)

pub returns-else-lies_inside-clause-written : goal.returns-else-lies_inside-clause-written
returns-else-lies_inside-clause-written c =
    let asked = c.asked_range-asked.ensures in let base = c.address-base.ensures.value in
    let outside = sym (rw (asked.base, asked.top, base) at c.lies_inside.ensures.value) ∙ c.if-lies_inside.false in
    rw outside (rw (asked.base, asked.top, base) at c.put_escape-else-lies_inside.ensures.written)
