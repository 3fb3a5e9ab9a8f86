use Rattle.std.proofs.Common.{◌≤◌, ℕ, List, ◌++◌, length, take, subst, arith, ap, ◌∙◌}
use Rattle.cap_streams.specs.Written.{◌⨾◌}
use Rattle.cap_run_judge.specs.{declared.verdict.RunVerdict.TheVariants.No, VerdictLines.run_verdict_line}
use Rattle.cap_report.proofs.WhyLemmas.{on_ok, on_err}
use Rattle.cap_run_report.proofs.explanations.push_fault.Goals as goal

pub returns-clause-ok : goal.returns-clause-ok
returns-clause-ok g c =
    let r = c.put_run_report-end.ensures.report in
    let text = (rw (c.run_verdict_text-length.ensures.line ∙ ap run_verdict_line c.verdict.ensures.value) at c.put-at.ensures.written) ⨾ r.2 in
    let few : length (run_verdict_line (No c.args.fault.now.line c.args.fault.now.refusal) ++ r.0) ≤ 3136 = omega (arith, text.ends, c.put_run_report-end.ensures.fits) in
    on_ok c.push_all.result (λ took. (
      r.0,
      r.1,
      subst (g.K.Sink.took c.args.sink.now c.push_all.new.sink) text.written took,
      few,
    )) c.push_all.ensures.ok

pub returns-clause-err : goal.returns-clause-err
returns-clause-err g c =
    let r = c.put_run_report-end.ensures.report in
    let text = (rw (c.run_verdict_text-length.ensures.line ∙ ap run_verdict_line c.verdict.ensures.value) at c.put-at.ensures.written) ⨾ r.2 in
    on_err c.push_all.result (λ part. (
      r.0,
      r.1,
      part.0,
      subst (λ (t : List ℕ). g.K.Sink.took c.args.sink.now c.push_all.new.sink (take part.0 t)) text.written part.1,
    )) c.push_all.ensures.err
