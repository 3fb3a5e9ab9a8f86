use Rattle.std.proofs.Common.{rules}
use Rattle.cap_run.proofs.run_machine.RunMachine.register.Goals as goal

pub returns-in-Special-clause-value : goal.returns-in-Special-clause-value
returns-in-Special-clause-value g c = rw c.in-Special.is search rules
