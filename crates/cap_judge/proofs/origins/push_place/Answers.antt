use Rattle.std.proofs.Common.{ℕ, OnOk, OnErr, take, subst, sym, ◌∙◌}
use Rattle.cap_machine.specs.Helds.{account_of}
use Rattle.cap_judge.proofs.OriginLemmas.{line_of, no_line}
use Rattle.cap_judge.proofs.origins.push_place.Goals as goal

pub returns-in-Some-clause-ok : goal.returns-in-Some-clause-ok
returns-in-Some-clause-ok g c =
    subst (λ text. OnOk c.push_all.result (g.K.Sink.took c.args.sink.now c.push_all.new.sink text))
    (line_of (account_of c.args.machine.now).origin c.args.place c.in-Some.root _ c.requires
    (sym c.origin.ensures.origin ∙ c.in-Some.is) c.origin_text-length.ensures.line)
    c.push_all.ensures.ok

pub returns-in-Some-clause-err : goal.returns-in-Some-clause-err
returns-in-Some-clause-err g c =
    subst (λ text. OnErr c.push_all.result ((n : ℕ) × g.K.Sink.took c.args.sink.now c.push_all.new.sink (take n text)))
    (line_of (account_of c.args.machine.now).origin c.args.place c.in-Some.root _ c.requires
    (sym c.origin.ensures.origin ∙ c.in-Some.is) c.origin_text-length.ensures.line)
    c.push_all.ensures.err

pub returns-in-None-clause-ok : goal.returns-in-None-clause-ok
returns-in-None-clause-ok g c =
    subst (λ text. g.K.Sink.took c.args.sink.now c.args.sink.now text)
    (no_line (account_of c.args.machine.now).origin c.args.place c.requires
    (sym c.origin.ensures.origin ∙ c.in-None.is))
    (g.met.K.Sink.nothing c.args.sink.now)
