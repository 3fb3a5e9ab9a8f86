use Rattle.std.proofs.Common.{inl, inr, refl}
use Rattle.cap_streams.specs.Written.{◌⨾◌}
use Rattle.cap_run_report.proofs.bad_run_lines.put_bad_run_line.Goals as goal

pub returns-in-Some-clause-written : goal.returns-in-Some-clause-written
returns-in-Some-clause-written c =
    let line = (c.put-length.ensures.written ⨾ c.put-end.ensures.written).written in
    let begins = rw line at c.in-Some.ensures.some in
    let told = rw c.form_of.ensures.form at c.put_line.ensures.written in
    (_, inl (c.in-Some.head, (c.in-Some.field-0-1.now, begins), refl), told)

pub returns-in-Some-take-clause-written : goal.returns-in-Some-take-clause-written
returns-in-Some-take-clause-written c =
    let line = (c.put-length.ensures.written ⨾ c.put-end.ensures.written).written in
    let other = rw line at c.in-None.ensures.none in
    let begins = rw line at c.in-Some-take.ensures.some in
    let told = c.put_bad_line.ensures.written in
    (told.0, inr (other, inl ((c.in-Some-take.field-0.0, c.in-Some-take.field-0.1.now, begins), told.1)), told.2)

pub returns-in-None-take-clause-written : goal.returns-in-None-take-clause-written
returns-in-None-take-clause-written c =
    let line = (c.put-length.ensures.written ⨾ c.put-end.ensures.written).written in
    let other = rw line at c.in-None.ensures.none in
    let none = rw line at c.in-None-take.ensures.none in
    (_, inr (other, inr (none, refl)), c.put_line-in-None-take.ensures.written)
