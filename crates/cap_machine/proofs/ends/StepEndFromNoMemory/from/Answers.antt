use Rattle.std.proofs.Common.{refl}
use Rattle.cap_machine.proofs.ends.StepEndFromNoMemory.from.Goals as goal

pub returns : goal.returns
returns c = refl
