use Rattle.cap_machine.proofs.LabelLemmas.{register-coded, register-sound}
use Rattle.cap_machine.proofs.machine.Machine.save_registers.Goals as goal

pub set-requires-clause-sound : goal.set-requires-clause-sound
set-requires-clause-sound g c = register-sound c.self.inside.registers c.self.inside.codes _ c.self.invariant

pub set-requires-clause-coded : goal.set-requires-clause-coded
set-requires-clause-coded g c = register-coded c.self.inside.registers c.self.inside.codes _ c.self.invariant
