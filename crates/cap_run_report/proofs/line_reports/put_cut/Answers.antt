use Rattle.std.proofs.lemmas.List.{append-nil}
use Rattle.cap_streams.specs.Written.{◌⨾◌}
use Rattle.cap_report.specs.FaultReports.{count_lines}
use Rattle.cap_run.specs.RunChanges.{account_in}
use Rattle.cap_run_report.proofs.line_reports.put_cut.Goals as goal
use Rattle.cap_run.specs.Machines.{run_in}

pub returns-clause-written : goal.returns-clause-written
returns-clause-written g c =
    let counts = rw (append-nil (count_lines (account_in (run_in c.args.machine.now)))) at c.put_counts-at.ensures.written in
    let told = rw (c.cut_due.ensures.text, c.cut_hint.ensures.text) at c.put_hinted_line.ensures.written in
    counts ⨾ told
