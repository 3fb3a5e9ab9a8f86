use Rattle.std.proofs.Common.{◌++◌, refl}
use Rattle.cap_streams.specs.{FaultLines.bytes_of, Written.◌⨾◌}
use Rattle.cap_texts.specs.ShownBytes.{shown_line}
use Rattle.cap_run_report.proofs.line_reports.put_run_report.Goals as goal

pub returns-clause-report : goal.returns-clause-report
returns-clause-report g c =
    let details = c.put_details.ensures.written in
    let text = c.as_slice-text.ensures.value in
    let line = rw text at c.put_shown_line-at.ensures.written in (
      shown_line (bytes_of c.args.fault.now.text) ++ details.0,
      record { details = details.0; are = rw text at details.1; report_is = refl },
      line ⨾ details.2,
    )
