use Rattle.std.proofs.Common.{refl}
use Rattle.cap_judge.proofs.OriginLemmas.{both_ok, both_err, first_err}
use Rattle.cap_run_judge.proofs.owners.push_places.Goals as goal

pub returns-in-Ok-clause-ok : goal.returns-in-Ok-clause-ok
returns-in-Ok-clause-ok g c =
    both_ok g.K.Sink.took c.args.sink.now c.push_harts.new.sink c.push_granules.new.sink g.met.K.Sink.joined _ _ _ refl
    c.push_granules.result c.in-Ok.ensures.ok c.push_granules.ensures.ok

pub returns-in-Ok-clause-err : goal.returns-in-Ok-clause-err
returns-in-Ok-clause-err g c =
    both_err g.K.Sink.took c.args.sink.now c.push_harts.new.sink c.push_granules.new.sink g.met.K.Sink.joined _ _ _ refl
    c.push_granules.result c.in-Ok.ensures.ok c.push_granules.ensures.err

pub returns-in-Err-clause-err : goal.returns-in-Err-clause-err
returns-in-Err-clause-err g c = first_err (g.K.Sink.took c.args.sink.now c.push_harts.new.sink) _ _ _ refl c.in-Err.ensures.err
