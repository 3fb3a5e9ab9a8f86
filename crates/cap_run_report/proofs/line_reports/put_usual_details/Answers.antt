use Rattle.std.proofs.Common.{inl, inr, refl}
use Rattle.cap_streams.specs.Written.{◌⨾◌}
use Rattle.cap_run_report.proofs.StepLemmas.{details_other}
use Rattle.cap_run_report.proofs.line_reports.put_usual_details.Goals as goal
use Rattle.cap_run.specs.Machines.{run_in}

pub returns-in_default-clause-written : goal.returns-in_default-clause-written
returns-in_default-clause-written g c =
    let told = c.put_line_details.ensures.written in
    let other = c.in_default in (
      told.0,
      details_other (run_in c.args.machine.now) c.args.line c.args.text.now c.args.refusal told.0 other.not-BadHeader other.not-LineTooLong other.not-BadLine
          other.not-BadMode other.not-Misplaced other.not-Truncated other.not-WrongCount other.not-LimitPassed told.1,
      told.2,
    )

pub returns-in-Misplaced-clause-written : goal.returns-in-Misplaced-clause-written
returns-in-Misplaced-clause-written g c =
    let hint = rw c.place_hint.ensures.text at c.put_hint_line.ensures.written in
    rw c.in-Misplaced.is (_, refl, c.put_counts-at.ensures.written ⨾ hint)

pub returns-in-Truncated-clause-written : goal.returns-in-Truncated-clause-written
returns-in-Truncated-clause-written g c = rw c.in-Truncated.is (_, refl, c.put_cut.ensures.written)

pub returns-in-BadHeader-clause-written : goal.returns-in-BadHeader-clause-written
returns-in-BadHeader-clause-written g c = rw c.in-BadHeader.is c.put_bad_run_header.ensures.written

pub returns-in-LineTooLong-clause-written : goal.returns-in-LineTooLong-clause-written
returns-in-LineTooLong-clause-written g c = rw c.in-LineTooLong.is (_, refl, c.put_line.ensures.written)

pub returns-in-BadLine-clause-written : goal.returns-in-BadLine-clause-written
returns-in-BadLine-clause-written g c = rw c.in-BadLine.is c.put_bad_run_line.ensures.written

pub returns-in-BadMode-clause-written : goal.returns-in-BadMode-clause-written
returns-in-BadMode-clause-written g c = rw c.in-BadMode.is (_, refl, c.put_header_lines.ensures.written)

pub returns-in-WrongCount-clause-written : goal.returns-in-WrongCount-clause-written
returns-in-WrongCount-clause-written g c = elim c.in-WrongCount.is [
  | inl is ↦ rw is (_, refl, rw is at c.put_counts.ensures.written)
  | inr is ↦ rw is (_, refl, rw is at c.put_counts.ensures.written)
]
