use Rattle.std.proofs.Common.{◌++◌, arith, subst}
use Rattle.cap_streams.specs.FaultLines.{bytes_of}
use Rattle.cap_machine.specs.Helds.{account_of}
use Rattle.cap_judge.specs.{declared.verdict.Verdict.TheVariants.No, Readings.known_of, VerdictLines.verdict_line}
use Rattle.cap_report.specs.FaultReports.{IsLineReport}
use Rattle.cap_report.proofs.WhyLemmas.{no_at_end, on_err, on_ok, yes_at_end}
use Rattle.cap_report.proofs.explanations.push_ending.Goals as goal

pub returns-in-Ok-clause-ok : goal.returns-in-Ok-clause-ok
returns-in-Ok-clause-ok g c =
    on_ok c.push_verdict.result (λ took. λ bytes read cut. (
      c.in-Ok.verdict,
      verdict_line c.in-Ok.verdict,
      yes_at_end bytes c.args.rest.now c.args.judge.now.due c.args.judge.now.machine c.ending.result c.in-Ok.verdict c.in-Ok.is read cut
          (c.ending.ensures.ends cut),
      took,
      omega (arith, c.push_verdict.ensures.few),
    )) c.push_verdict.ensures.ok

pub returns-in-Ok-clause-err : goal.returns-in-Ok-clause-err
returns-in-Ok-clause-err g c =
    on_err c.push_verdict.result (λ part. λ bytes read cut. (
      c.in-Ok.verdict,
      verdict_line c.in-Ok.verdict,
      yes_at_end bytes c.args.rest.now c.args.judge.now.due c.args.judge.now.machine c.ending.result c.in-Ok.verdict c.in-Ok.is read cut
          (c.ending.ensures.ends cut),
      part.0,
      part.1,
    )) c.push_verdict.ensures.err

pub returns-in-Err-clause-ok : goal.returns-in-Err-clause-ok
returns-in-Err-clause-ok g c =
    let fault = c.in-Err.fault in
    let held = (known_of c.args.judge.now).held in
    on_ok c.push_fault.result (λ p. λ bytes read cut. (
      No fault.line fault.refusal,
      verdict_line (No fault.line fault.refusal) ++ p.0,
      no_at_end bytes c.args.rest.now c.args.judge.now.due held c.ending.result fault p.0 c.in-Err.is read cut (c.ending.ensures.ends cut)
          (subst (λ h. IsLineReport (account_of h) (bytes_of fault.text) fault.refusal p.0) c.machine.ensures.held p.1),
      p.2,
      p.3,
    )) c.push_fault.ensures.ok

pub returns-in-Err-clause-err : goal.returns-in-Err-clause-err
returns-in-Err-clause-err g c =
    let fault = c.in-Err.fault in
    let held = (known_of c.args.judge.now).held in
    on_err c.push_fault.result (λ p. λ bytes read cut. (
      No fault.line fault.refusal,
      verdict_line (No fault.line fault.refusal) ++ p.0,
      no_at_end bytes c.args.rest.now c.args.judge.now.due held c.ending.result fault p.0 c.in-Err.is read cut (c.ending.ensures.ends cut)
          (subst (λ h. IsLineReport (account_of h) (bytes_of fault.text) fault.refusal p.0) c.machine.ensures.held p.1),
      p.2,
      p.3,
    )) c.push_fault.ensures.err
