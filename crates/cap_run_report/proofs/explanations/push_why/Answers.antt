use Rattle.std.proofs.Common.{◌++◌, subst, sym, take}
use Rattle.cap_run_judge.specs.{VerdictLines.run_verdict_line}
use Rattle.cap_report.proofs.WhyLemmas.{on_ok, on_err}
use Rattle.cap_run_report.proofs.WhyLemmas.{why_yes, why_no}
use Rattle.cap_run_report.proofs.explanations.push_why.Goals as goal
use Rattle.cap_run.specs.Machines.{run_in}

pub returns-in-Yes-clause-ok : goal.returns-in-Yes-clause-ok
returns-in-Yes-clause-ok g c =
    let is = why_yes c.args.owners (run_in c.args.machine.now) _ c.args.verdict.now c.in-Yes.steps c.in-Yes.roots c.in-Yes.objects c.in-Yes.is in
    on_ok c.push_run_report.result (λ took. (_, is, took)) c.push_run_report.ensures.ok

pub returns-in-Yes-clause-err : goal.returns-in-Yes-clause-err
returns-in-Yes-clause-err g c =
    let is = why_yes c.args.owners (run_in c.args.machine.now) _ c.args.verdict.now c.in-Yes.steps c.in-Yes.roots c.in-Yes.objects c.in-Yes.is in
    on_err c.push_run_report.result (λ part. (_, is, part.0, part.1)) c.push_run_report.ensures.err

pub returns-in-No-clause-ok : goal.returns-in-No-clause-ok
returns-in-No-clause-ok g c =
    on_ok c.push_fault.result (λ p. (
      run_verdict_line c.args.verdict.now ++ p.0,
      why_no c.args.owners _ _ c.args.verdict.now c.in-No.line c.in-No.refusal p.0 c.in-No.is p.1,
      subst (λ v. g.K.Sink.took c.args.sink.now c.push_fault.new.sink (run_verdict_line v ++ p.0)) (sym c.in-No.is) p.2,
    )) c.push_fault.ensures.ok

pub returns-in-No-clause-err : goal.returns-in-No-clause-err
returns-in-No-clause-err g c =
    on_err c.push_fault.result (λ p. (
      run_verdict_line c.args.verdict.now ++ p.0,
      why_no c.args.owners _ _ c.args.verdict.now c.in-No.line c.in-No.refusal p.0 c.in-No.is p.1,
      p.2,
      subst (λ v. g.K.Sink.took c.args.sink.now c.push_fault.new.sink (take p.2 (run_verdict_line v ++ p.0))) (sym c.in-No.is) p.3,
    )) c.push_fault.ensures.err
