use Rattle.cap_run_judge.proofs.owners.push_owner.Goals as goal

pub returns-in-Some-clause-ok : goal.returns-in-Some-clause-ok
returns-in-Some-clause-ok g c = rw (← c.in-Some.ensures.value, ← c.owner_text-length.ensures.line) c.push_all.ensures.ok

pub returns-in-Some-clause-err : goal.returns-in-Some-clause-err
returns-in-Some-clause-err g c = rw (← c.in-Some.ensures.value, ← c.owner_text-length.ensures.line) c.push_all.ensures.err

pub returns-in-None-clause-ok : goal.returns-in-None-clause-ok
returns-in-None-clause-ok g c = rw (← c.in-None.ensures.value) (g.met.K.Sink.nothing c.args.sink.now)
