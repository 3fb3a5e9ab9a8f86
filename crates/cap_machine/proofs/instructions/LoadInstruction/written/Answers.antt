use Rattle.std.proofs.Common.{refl}
use Rattle.cap_machine.proofs.instructions.LoadInstruction.written.Goals as goal

pub returns-clause-place : goal.returns-clause-place
returns-clause-place g c = refl
