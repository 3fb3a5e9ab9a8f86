use Rattle.std.proofs.Common.{ℕ, List, OnOk, subst, take}
use Rattle.std.specs.Result.{OnErr}
use Rattle.cap_judge.proofs.output.push_verdict.Goals as goal

pub returns-clause-ok : goal.returns-clause-ok
returns-clause-ok g c =
    subst (λ (text : List ℕ). OnOk c.push_all.result (g.K.Sink.took c.args.sink.now c.push_all.new.sink text))
    c.verdict_text-length.ensures.line c.push_all.ensures.ok

pub returns-clause-err : goal.returns-clause-err
returns-clause-err g c =
    subst (λ (text : List ℕ). OnErr c.push_all.result ((n : ℕ) × g.K.Sink.took c.args.sink.now c.push_all.new.sink (take n text)))
    c.verdict_text-length.ensures.line c.push_all.ensures.err
