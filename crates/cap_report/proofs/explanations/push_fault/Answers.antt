use Rattle.std.proofs.Common.{◌≤◌, ℕ, List, ◌++◌, length, take, subst, arith, ap, ◌∙◌}
use Rattle.cap_streams.specs.Written.{◌⨾◌}
use Rattle.cap_judge.specs.{declared.verdict.Verdict.TheVariants.No, VerdictLines.verdict_line}
use Rattle.cap_report.proofs.WhyLemmas.{on_ok, on_err}
use Rattle.cap_report.proofs.explanations.push_fault.Goals as goal

pub returns-clause-ok : goal.returns-clause-ok
returns-clause-ok g c =
    let r = c.put_report-end.ensures.report in
    let text = (rw (c.verdict_text-length.ensures.line) at c.put-at.ensures.written) ⨾ r.2 in
    let few : length (verdict_line (No c.args.line c.args.refusal) ++ r.0) ≤ 3136 = omega (arith, text.ends, c.put_report-end.ensures.fits) in
    on_ok c.push_all.result (λ took. (
      r.0,
      r.1,
      subst (g.K.Sink.took c.args.sink.now c.push_all.new.sink) text.written took,
      few,
    )) c.push_all.ensures.ok

pub returns-clause-err : goal.returns-clause-err
returns-clause-err g c =
    let r = c.put_report-end.ensures.report in
    let text = (rw (c.verdict_text-length.ensures.line) at c.put-at.ensures.written) ⨾ r.2 in
    on_err c.push_all.result (λ part. (
      r.0,
      r.1,
      part.0,
      subst (λ (t : List ℕ). g.K.Sink.took c.args.sink.now c.push_all.new.sink (take part.0 t)) text.written part.1,
    )) c.push_all.ensures.err
