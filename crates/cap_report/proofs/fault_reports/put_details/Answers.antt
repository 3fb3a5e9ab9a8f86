use Rattle.std.proofs.Common.{[], inl, inr, refl, subst, arith}
use Rattle.cap_log.specs.{declared.lines.Line.Line, Lines.Spells}
use Rattle.cap_streams.specs.Written.{Writes-nothing}
use Rattle.cap_machine.specs.Helds.{account_of}
use Rattle.cap_report.specs.{FaultReports.root_lines, StepLines.step_lines}
use Rattle.cap_judge.proofs.TurnLemmas.{formed}
use Rattle.cap_report.proofs.DetailLemmas.{details_other, nothing_known, nothing_told}
use Rattle.cap_report.proofs.fault_reports.put_details.Goals as goal

pub returns-in-None : goal.returns-in-None
returns-in-None g c =
    let account = account_of c.args.machine.now in
    record {
      fits = omega arith;
      written = (
        [],
        details_other account c.args.text.now c.args.refusal [] c.in_default.not-BadHeader
            c.in_default.not-LineTooLong c.in_default.not-BadLine c.in_default.not-BadMode
            c.in_default.not-Misplaced c.in_default.not-Truncated
            c.in_default.not-WrongCount c.in_default.not-LimitPassed (inr (λ line by. c.in-None.ensures.none line by.0, refl)),
        Writes-nothing,
      );
    }

pub returns-in_default-line : goal.returns-in_default-line
returns-in_default-line g c =
    let account = account_of c.args.machine.now in
    record {
      fits = omega arith;
      written = (
        [],
        details_other account c.args.text.now c.args.refusal [] c.in_default.not-BadHeader
            c.in_default.not-LineTooLong c.in_default.not-BadLine c.in_default.not-BadMode
            c.in_default.not-Misplaced c.in_default.not-Truncated
            c.in_default.not-WrongCount c.in_default.not-LimitPassed (nothing_told account c.args.text.now
            c.in-Some.line c.args.refusal _ refl c.in-Some.ensures.some
            (nothing_known account c.in-Some.line c.args.refusal c.in_default-line.not-Root c.in_default-line.not-Step)),
        Writes-nothing,
      );
    }

pub returns-in-Root-clause-written : goal.returns-in-Root-clause-written
returns-in-Root-clause-written g c =
    let account = account_of c.args.machine.now in
    let spells = subst (Spells c.args.text.now) c.in-Root.is c.in-Some.ensures.some in (
      root_lines account c.in-Root.place c.in-Root.word c.args.refusal,
      details_other account c.args.text.now c.args.refusal _
          c.in_default.not-BadHeader c.in_default.not-LineTooLong c.in_default.not-BadLine
          c.in_default.not-BadMode c.in_default.not-Misplaced
          c.in_default.not-Truncated c.in_default.not-WrongCount c.in_default.not-LimitPassed
          (inl (Line.Root c.in-Root.place c.in-Root.word, (spells, formed account.rules (Line.Root c.in-Root.place c.in-Root.word) refl), refl)),
      c.put_root_lines.ensures.written,
    )

pub returns-in-Step-clause-written : goal.returns-in-Step-clause-written
returns-in-Step-clause-written g c =
    let account = account_of c.args.machine.now in
    let spells = subst (Spells c.args.text.now) c.in-Step.is c.in-Some.ensures.some in (
      step_lines account c.in-Step.step c.args.refusal,
      details_other account c.args.text.now c.args.refusal _ c.in_default.not-BadHeader
          c.in_default.not-LineTooLong c.in_default.not-BadLine c.in_default.not-BadMode
          c.in_default.not-Misplaced c.in_default.not-Truncated
          c.in_default.not-WrongCount c.in_default.not-LimitPassed (inl (
            Line.Step c.in-Step.step,
            (spells, formed account.rules (Line.Step c.in-Step.step) refl),
            refl,
          )),
      c.put_step_lines.ensures.written,
    )
