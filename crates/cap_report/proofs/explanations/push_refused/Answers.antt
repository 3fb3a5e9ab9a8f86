use Rattle.std.proofs.Common.{◌++◌, [], None, Some, arith, refl, subst}
use Rattle.cap_streams.specs.FaultLines.{bytes_of}
use Rattle.cap_machine.specs.Helds.{account_of}
use Rattle.cap_judge.specs.{declared.verdict.Verdict.TheVariants.No, Readings.{known_of, stage_of}}
use Rattle.cap_judge.specs.VerdictLines.{verdict_line}
use Rattle.cap_judge.proofs.TurnLaws.{begins, reached}
use Rattle.cap_report.specs.FaultReports.{IsLineReport}
use Rattle.cap_report.proofs.WhyLemmas.{on_err, on_ok, so_far}
use Rattle.cap_report.proofs.explanations.push_refused.Goals as goal

pub returns-in-None-clause-ok : goal.returns-in-None-clause-ok
returns-in-None-clause-ok g c = λ bytes read.
    let stage = stage_of c.args.judge.now in
    let none = begins bytes stage (reached bytes stage read) c.in-None.ensures.fault in
    (None, [], (none, refl), g.met.K.Sink.nothing c.args.sink.now, omega arith)

pub returns-in-Some-clause-ok : goal.returns-in-Some-clause-ok
returns-in-Some-clause-ok g c =
    let fault = c.in-Some.fault in
    let held = (known_of c.args.judge.now).held in
    on_ok c.push_fault.result (λ p. λ bytes read. (
      Some (No fault.line fault.refusal),
      verdict_line (No fault.line fault.refusal) ++ p.0,
      so_far bytes c.args.judge.now.due held fault p.0 read c.in-Some.ensures.fault
          (subst (λ h. IsLineReport (account_of h) (bytes_of fault.text) fault.refusal p.0) c.machine.ensures.held p.1),
      p.2,
      p.3,
    )) c.push_fault.ensures.ok

pub returns-in-Some-clause-err : goal.returns-in-Some-clause-err
returns-in-Some-clause-err g c =
    let fault = c.in-Some.fault in
    let held = (known_of c.args.judge.now).held in
    on_err c.push_fault.result (λ p. λ bytes read. (
      Some (No fault.line fault.refusal),
      verdict_line (No fault.line fault.refusal) ++ p.0,
      so_far bytes c.args.judge.now.due held fault p.0 read c.in-Some.ensures.fault
          (subst (λ h. IsLineReport (account_of h) (bytes_of fault.text) fault.refusal p.0) c.machine.ensures.held p.1),
      p.2,
      p.3,
    )) c.push_fault.ensures.err
