use Rattle.std.proofs.Common.{◌^◌, sym}
use Rattle.cap_machine.specs.Helds.{account_of}
use Rattle.cap_judge.proofs.OriginLemmas.{lines_split, both_ok, both_err, first_err}
use Rattle.cap_judge.proofs.origins.push_origins.Goals as goal

pub returns-in-Ok-clause-ok : goal.returns-in-Ok-clause-ok
returns-in-Ok-clause-ok g c =
    let held = c.args.machine.now in
    both_ok g.K.Sink.took c.args.sink.now c.push_registers.new.sink c.push_granules.new.sink g.met.K.Sink.joined _ _ _
    (sym (lines_split (account_of held).origin 1 31 (2 ^ 60)))
    c.push_granules.result c.in-Ok.ensures.ok c.push_granules.ensures.ok

pub returns-in-Ok-clause-err : goal.returns-in-Ok-clause-err
returns-in-Ok-clause-err g c =
    let held = c.args.machine.now in
    both_err g.K.Sink.took c.args.sink.now c.push_registers.new.sink c.push_granules.new.sink g.met.K.Sink.joined _ _ _
    (sym (lines_split (account_of held).origin 1 31 (2 ^ 60)))
    c.push_granules.result c.in-Ok.ensures.ok c.push_granules.ensures.err

pub returns-in-Err-clause-err : goal.returns-in-Err-clause-err
returns-in-Err-clause-err g c =
    let held = c.args.machine.now in
    first_err (g.K.Sink.took c.args.sink.now c.push_registers.new.sink) _ _ _
    (sym (lines_split (account_of held).origin 1 31 (2 ^ 60))) c.in-Err.ensures.err
