use Rattle.std.proofs.Common.{◌++◌, subst, sym}
use Rattle.cap_streams.specs.Written.{Writes}
use Rattle.cap_machine.specs.Accounts.{Account}
use Rattle.cap_report.specs.FaultReports.{count_lines, due_line}
use Rattle.cap_run_report.proofs.line_reports.put_counts.Goals as goal

pub returns-clause-written : goal.returns-clause-written
unfolding count_lines
returns-clause-written g c =
    subst
    (λ (a : Account). Writes c.args.at (count_lines a ++ due_line a c.args.refusal) c.args.buffer.now c.put_counted_lines.new.buffer c.put_counted_lines.result)
    (sym c.machine.ensures.account) c.put_counted_lines.ensures.written
