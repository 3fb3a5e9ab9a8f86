use Rattle.std.proofs.Common.{List, OnErr, OnOk, subst, take, ℕ}
use Rattle.cap_judge.proofs.OriginLemmas.{both_ok, both_err, first_err}
use Rattle.cap_run_judge.proofs.RunReportLemmas.{asked_text, no_text, plain_text}
use Rattle.cap_run_judge.proofs.output.push_run_report.Goals as goal
use Rattle.cap_run.specs.Machines.{run_in}

pub returns-in-Ok-clause-ok : goal.returns-in-Ok-clause-ok
returns-in-Ok-clause-ok g c =
    both_ok g.K.Sink.took c.args.sink.now c.push_run_verdict-in-Yes.new.sink c.push_owners.new.sink g.met.K.Sink.joined _ _ _
    (asked_text c.args.owners (run_in c.args.machine.now) c.args.verdict.now c.in-Yes.steps c.in-Yes.roots c.in-Yes.objects c.if-not-owners.false c.in-Yes.is)
    c.push_owners.result c.in-Ok.ensures.ok c.push_owners.ensures.ok

pub returns-in-Ok-clause-err : goal.returns-in-Ok-clause-err
returns-in-Ok-clause-err g c =
    both_err g.K.Sink.took c.args.sink.now c.push_run_verdict-in-Yes.new.sink c.push_owners.new.sink g.met.K.Sink.joined _ _ _
    (asked_text c.args.owners (run_in c.args.machine.now) c.args.verdict.now c.in-Yes.steps c.in-Yes.roots c.in-Yes.objects c.if-not-owners.false c.in-Yes.is)
    c.push_owners.result c.in-Ok.ensures.ok c.push_owners.ensures.err

pub returns-in-Err-clause-err : goal.returns-in-Err-clause-err
returns-in-Err-clause-err g c =
    first_err (g.K.Sink.took c.args.sink.now c.push_run_verdict-in-Yes.new.sink) _ _ _
    (asked_text c.args.owners (run_in c.args.machine.now) c.args.verdict.now c.in-Yes.steps c.in-Yes.roots c.in-Yes.objects c.if-not-owners.false c.in-Yes.is)
    c.in-Err.ensures.err

pub returns-then-not-owners-clause-ok : goal.returns-then-not-owners-clause-ok
returns-then-not-owners-clause-ok g c =
    subst (λ (t : List ℕ). OnOk c.push_run_verdict.result (g.K.Sink.took c.args.sink.now c.push_run_verdict.new.sink t))
    (plain_text c.args.owners (run_in c.args.machine.now) c.args.verdict.now c.if-not-owners.true) c.push_run_verdict.ensures.ok

pub returns-then-not-owners-clause-err : goal.returns-then-not-owners-clause-err
returns-then-not-owners-clause-err g c =
    subst (λ (t : List ℕ). OnErr c.push_run_verdict.result ((n : ℕ) × g.K.Sink.took c.args.sink.now c.push_run_verdict.new.sink (take n t)))
    (plain_text c.args.owners (run_in c.args.machine.now) c.args.verdict.now c.if-not-owners.true) c.push_run_verdict.ensures.err

pub returns-in-No-clause-ok : goal.returns-in-No-clause-ok
returns-in-No-clause-ok g c =
    subst (λ (t : List ℕ). OnOk c.push_run_verdict-in-No.result (g.K.Sink.took c.args.sink.now c.push_run_verdict-in-No.new.sink t))
    (no_text c.args.owners (run_in c.args.machine.now) c.args.verdict.now c.in-No.line c.in-No.refusal c.in-No.is) c.push_run_verdict-in-No.ensures.ok

pub returns-in-No-clause-err : goal.returns-in-No-clause-err
returns-in-No-clause-err g c =
    subst (λ (t : List ℕ). OnErr c.push_run_verdict-in-No.result ((n : ℕ) × g.K.Sink.took c.args.sink.now c.push_run_verdict-in-No.new.sink (take n t)))
    (no_text c.args.owners (run_in c.args.machine.now) c.args.verdict.now c.in-No.line c.in-No.refusal c.in-No.is) c.push_run_verdict-in-No.ensures.err
