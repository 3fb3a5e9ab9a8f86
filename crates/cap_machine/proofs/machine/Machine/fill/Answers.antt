use Rattle.std.proofs.Common.{rules}
use Rattle.cap_machine.proofs.LabelLemmas.{filled-answer}
use Rattle.cap_machine.proofs.machine.Machine.fill.Goals as goal

pub returns-clause-account : goal.returns-clause-account
returns-clause-account g c = filled-answer c.args.self.now c.put_counted.new.self c.args.granule c.args.cap c.args.label c.put_counted.result (search rules) c.put_counted.ensures
