use Rattle.std.proofs.Common.{[], inl, inr, refl}
use Rattle.cap_streams.specs.Written.{Writes-nothing}
use Rattle.cap_run_report.proofs.line_reports.put_line_details.Goals as goal

pub returns-in-Some-clause-written : goal.returns-in-Some-clause-written
returns-in-Some-clause-written g c =
    let told = c.put_known.ensures.written in
    (told.0, inl (c.in-Some.line, c.in-Some.ensures.some, told.1), told.2)

pub returns-in-None-clause-written : goal.returns-in-None-clause-written
returns-in-None-clause-written g c = ([], inr (c.in-None.ensures.none, refl), Writes-nothing)
