use Rattle.std.proofs.Common.{◌++◌, true, false, subst, sym, take}
use Rattle.cap_judge.specs.VerdictLines.{verdict_line}
use Rattle.cap_report.proofs.WhyLemmas.{on_ok, on_err, why_yes, why_no}
use Rattle.cap_report.proofs.explanations.push_why.Goals as goal

pub returns-then-origins-clause-ok : goal.returns-then-origins-clause-ok
returns-then-origins-clause-ok g c =
    let is = why_yes c.args.origins true c.args.machine.now _ c.args.verdict.now c.in-Yes.steps c.in-Yes.roots c.in-Yes.is c.if-origins.true in
    on_ok c.push_report.result (λ took. (_, is, took)) c.push_report.ensures.ok

pub returns-else-origins-clause-ok : goal.returns-else-origins-clause-ok
returns-else-origins-clause-ok g c =
    let is = why_yes c.args.origins false c.args.machine.now _ c.args.verdict.now c.in-Yes.steps c.in-Yes.roots c.in-Yes.is c.if-origins.false in
    on_ok c.push_verdict.result (λ took. (_, is, took)) c.push_verdict.ensures.ok

pub returns-then-origins-clause-err : goal.returns-then-origins-clause-err
returns-then-origins-clause-err g c =
    let is = why_yes c.args.origins true c.args.machine.now _ c.args.verdict.now c.in-Yes.steps c.in-Yes.roots c.in-Yes.is c.if-origins.true in
    on_err c.push_report.result (λ part. (_, is, part.0, part.1)) c.push_report.ensures.err

pub returns-else-origins-clause-err : goal.returns-else-origins-clause-err
returns-else-origins-clause-err g c =
    let is = why_yes c.args.origins false c.args.machine.now _ c.args.verdict.now c.in-Yes.steps c.in-Yes.roots c.in-Yes.is c.if-origins.false in
    on_err c.push_verdict.result (λ part. (_, is, part.0, part.1)) c.push_verdict.ensures.err

pub returns-in-No-clause-ok : goal.returns-in-No-clause-ok
returns-in-No-clause-ok g c =
    on_ok c.push_fault.result (λ p. (
      verdict_line c.args.verdict.now ++ p.0,
      why_no c.args.origins c.args.machine.now _ c.args.verdict.now c.in-No.line c.in-No.refusal p.0 c.in-No.is p.1,
      subst (λ v. g.K.Sink.took c.args.sink.now c.push_fault.new.sink (verdict_line v ++ p.0)) (sym c.in-No.is) p.2,
    )) c.push_fault.ensures.ok

pub returns-in-No-clause-err : goal.returns-in-No-clause-err
returns-in-No-clause-err g c =
    on_err c.push_fault.result (λ p. (
      verdict_line c.args.verdict.now ++ p.0,
      why_no c.args.origins c.args.machine.now _ c.args.verdict.now c.in-No.line c.in-No.refusal p.0 c.in-No.is p.1,
      p.2,
      subst (λ v. g.K.Sink.took c.args.sink.now c.push_fault.new.sink (take p.2 (verdict_line v ++ p.0))) (sym c.in-No.is) p.3,
    )) c.push_fault.ensures.err
