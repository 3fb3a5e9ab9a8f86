use Rattle.cap_judge.proofs.{OriginLemmas.{both_ok, both_err, first_err}, ReportLemmas.yes_text}
use Rattle.cap_judge.proofs.output.push_report.Goals as goal

pub returns-in-Ok-clause-ok : goal.returns-in-Ok-clause-ok
returns-in-Ok-clause-ok g c =
    let held = c.args.machine.now in
    both_ok g.K.Sink.took c.args.sink.now c.push_verdict.new.sink c.push_origins.new.sink g.met.K.Sink.joined _ _ _
    (yes_text held c.args.verdict.now c.in-Yes.steps c.in-Yes.roots c.in-Yes.is)
    c.push_origins.result c.in-Ok.ensures.ok c.push_origins.ensures.ok

pub returns-in-Ok-clause-err : goal.returns-in-Ok-clause-err
returns-in-Ok-clause-err g c =
    let held = c.args.machine.now in
    both_err g.K.Sink.took c.args.sink.now c.push_verdict.new.sink c.push_origins.new.sink g.met.K.Sink.joined _ _ _
    (yes_text held c.args.verdict.now c.in-Yes.steps c.in-Yes.roots c.in-Yes.is)
    c.push_origins.result c.in-Ok.ensures.ok c.push_origins.ensures.err

pub returns-in-Err-clause-err : goal.returns-in-Err-clause-err
returns-in-Err-clause-err g c =
    let held = c.args.machine.now in
    first_err (g.K.Sink.took c.args.sink.now c.push_verdict.new.sink) _ _ _
    (yes_text held c.args.verdict.now c.in-Yes.steps c.in-Yes.roots c.in-Yes.is) c.in-Err.ensures.err
