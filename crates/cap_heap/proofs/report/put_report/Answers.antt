use Rattle.cap_streams.specs.Written.{◌⨾◌}
use Rattle.cap_heap.specs.HeapReports.{report_lines}
use Rattle.cap_heap.proofs.report.put_report.Goals as goal

pub returns-clause-written : goal.returns-clause-written
unfolding report_lines
returns-clause-written c =
    c.put_decimal_line-at.ensures.written ⨾ c.put_decimal_line-at-2.ensures.written ⨾ c.put_decimal_line-at-3.ensures.written
    ⨾ c.put_decimal_line-at-4.ensures.written ⨾ c.put_decimal_line-at-5.ensures.written ⨾ c.put_decimal_line.ensures.written
