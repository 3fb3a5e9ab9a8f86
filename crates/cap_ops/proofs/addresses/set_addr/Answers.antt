use Rattle.std.proofs.Common.{ap, option_map, ◌^◌, ◌<◌, Ok, Err, ◌∙◌, sym, arith}
use Rattle.cap_ops.specs.Refusals.{refusal_of}
use Rattle.cap_ops.proofs.AddressLemmas.{NotRepresentable-exact, NotRepresentable-near, StaysWithin-set_addr}
use Rattle.cap_ops.proofs.{ReachLemmas.StaysWithin-same, ResultLemmas.moved_so}
use Rattle.cap_ops.proofs.addresses.set_addr.Goals as goal

pub returns-in-Some-clause-range : goal.returns-in-Some-clause-range
returns-in-Some-clause-range c =
    let fits : c.args.address < 2 ^ 64 = omega arith in
    NotRepresentable-exact c.args.source c.args.address (Err c.in-Some.fault) fits (sym c.set_addr_fault.ensures ∙ ap (option_map refusal_of) c.in-Some.is)

pub returns-in-Some-clause-near : goal.returns-in-Some-clause-near
returns-in-Some-clause-near c =
    let fits : c.args.address < 2 ^ 64 = omega arith in
    NotRepresentable-near c.args.source c.args.address (Err c.in-Some.fault) fits (sym c.set_addr_fault.ensures ∙ ap (option_map refusal_of) c.in-Some.is)

pub returns-in-None-clause-stays_within : goal.returns-in-None-clause-stays_within
returns-in-None-clause-stays_within c =
    let fits : c.args.address < 2 ^ 64 = omega arith in
    StaysWithin-same c.moved.result _ c.args.source c.moved.ensures (StaysWithin-set_addr c.args.source c.args.address fits
    (sym c.set_addr_fault.ensures ∙ ap (option_map refusal_of) c.in-None.is))

pub returns-in-None-clause-range : goal.returns-in-None-clause-range
returns-in-None-clause-range c =
    let fits : c.args.address < 2 ^ 64 = omega arith in
    NotRepresentable-exact c.args.source c.args.address (Ok c.moved.result) fits
    (sym c.set_addr_fault.ensures ∙ ap (option_map refusal_of) c.in-None.is, c.moved.ensures)

pub returns-in-None-clause-moved_so : goal.returns-in-None-clause-moved_so
returns-in-None-clause-moved_so c =
    let fits : c.args.address < 2 ^ 64 = omega arith in
    moved_so c.args.source c.args.address c.moved.result fits c.moved.ensures
