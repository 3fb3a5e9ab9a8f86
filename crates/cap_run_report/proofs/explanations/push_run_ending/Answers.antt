use Rattle.std.proofs.{Common.{◌++◌, ◌≢◌, arith, subst}, lemmas.List.Elements.All-nil}
use Rattle.cap_streams.specs.FaultLines.{bytes_of}
use Rattle.cap_run_judge.specs.{declared.verdict.RunVerdict.TheVariants.No, Readings.{stage_of}, Reports.AreNumbered, VerdictLines.run_verdict_line}
use Rattle.cap_run_judge.proofs.RunReportLemmas.{are_numbered}
use Rattle.cap_report.proofs.WhyLemmas.{on_err, on_ok}
use Rattle.cap_run_report.specs.LineReports.{IsRunLineReport}
use Rattle.cap_run_report.proofs.WhyLemmas.{no_at_end, yes_at_end}
use Rattle.cap_run_report.proofs.explanations.push_run_ending.Goals as goal
use Rattle.cap_run.specs.Machines.{run_in}

pub returns-in-Ok-clause-ok : goal.returns-in-Ok-clause-ok
returns-in-Ok-clause-ok g c =
    let m = c.machine.result.now in
    let are = subst (λ x. AreNumbered (run_in x)) c.machine.ensures.held
    (are_numbered m.machine m.specials m.objects m.asks.held c.kept.ensures.safe) in
    on_ok c.push_run_verdict.result (λ took. λ asks bytes read. (
      c.in-Ok.verdict,
      run_verdict_line c.in-Ok.verdict,
      yes_at_end asks bytes (stage_of c.args.judge.now) c.ending.result c.in-Ok.verdict c.in-Ok.is are read (c.ending.ensures.ends (omega arith, All-nil (λ b. b ≢ 10))),
      took,
      omega (arith, c.push_run_verdict.ensures.few),
    )) c.push_run_verdict.ensures.ok

pub returns-in-Ok-clause-err : goal.returns-in-Ok-clause-err
returns-in-Ok-clause-err g c =
    let m = c.machine.result.now in
    let are = subst (λ x. AreNumbered (run_in x)) c.machine.ensures.held
    (are_numbered m.machine m.specials m.objects m.asks.held c.kept.ensures.safe) in
    on_err c.push_run_verdict.result (λ part. λ asks bytes read. (
      c.in-Ok.verdict,
      run_verdict_line c.in-Ok.verdict,
      yes_at_end asks bytes (stage_of c.args.judge.now) c.ending.result c.in-Ok.verdict c.in-Ok.is are read (c.ending.ensures.ends (omega arith, All-nil (λ b. b ≢ 10))),
      part.0,
      part.1,
    )) c.push_run_verdict.ensures.err

pub returns-in-Err-clause-ok : goal.returns-in-Err-clause-ok
returns-in-Err-clause-ok g c =
    let fault = c.in-Err.fault in
    on_ok c.push_fault.result (λ p. λ asks bytes read. (
      No fault.line fault.refusal,
      run_verdict_line (No fault.line fault.refusal) ++ p.0,
      no_at_end asks bytes (stage_of c.args.judge.now) c.ending.result fault p.0 c.in-Err.is read (c.ending.ensures.ends (omega arith, All-nil (λ b. b ≢ 10)))
          (subst (λ m. IsRunLineReport (run_in m) fault.line (bytes_of fault.text) fault.refusal p.0) c.machine-in-Err.ensures.held p.1),
      p.2,
      p.3,
    )) c.push_fault.ensures.ok

pub returns-in-Err-clause-err : goal.returns-in-Err-clause-err
returns-in-Err-clause-err g c =
    let fault = c.in-Err.fault in
    on_err c.push_fault.result (λ p. λ asks bytes read. (
      No fault.line fault.refusal,
      run_verdict_line (No fault.line fault.refusal) ++ p.0,
      no_at_end asks bytes (stage_of c.args.judge.now) c.ending.result fault p.0 c.in-Err.is read (c.ending.ensures.ends (omega arith, All-nil (λ b. b ≢ 10)))
          (subst (λ m. IsRunLineReport (run_in m) fault.line (bytes_of fault.text) fault.refusal p.0) c.machine-in-Err.ensures.held p.1),
      p.2,
      p.3,
    )) c.push_fault.ensures.err
