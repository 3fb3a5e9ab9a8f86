use Rattle.std.proofs.Common.{◌++◌, List, ℕ, subst, refl}
use Rattle.cap_streams.specs.Written.{◌⨾◌}
use Rattle.cap_texts.specs.ShownBytes.{shown_line}
use Rattle.cap_machine.specs.Helds.{account_of}
use Rattle.cap_report.specs.FaultReports.{AreDetails}
use Rattle.cap_report.proofs.fault_reports.put_report.Goals as goal

pub returns-clause-report : goal.returns-clause-report
returns-clause-report g c =
    let account = account_of c.args.machine.now in
    let is = c.as_slice-text.ensures.value in
    let line = rw is at c.put_shown_line-at.ensures.written in
    let d = c.put_details.ensures.written in (
      shown_line _ ++ d.0,
      record { details = d.0; are = subst (λ (t : List ℕ). AreDetails account t c.args.refusal d.0) is d.1; report_is = refl },
      line ⨾ d.2,
    )
