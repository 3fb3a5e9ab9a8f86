use Rattle.cap_machine.proofs.MadeLemmas.{stored_value}
use Rattle.cap_machine.proofs.instructions.StoreInstruction.perform.Goals as goal

pub returns-clause-outcome : goal.returns-clause-outcome
returns-clause-outcome g c =
    let out = c.in_ok-address.ensures.outcome in
    stored_value c.args.machine.now c.put_value_counted.new.self c.args.self
    c.put_value_counted.result c.kept.ensures.stored out.0 (rw (c.reach.ensures.same, out.1) at c.put_value_counted.ensures)
