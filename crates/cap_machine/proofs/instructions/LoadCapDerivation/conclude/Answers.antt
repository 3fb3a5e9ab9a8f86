use Rattle.std.proofs.Common.{refl}
use Rattle.cap_machine.proofs.instructions.LoadCapDerivation.conclude.Goals as goal

pub conclude-requires-clause-code : goal.conclude-requires-clause-code
conclude-requires-clause-code g c = c.requires.gives.1 _ refl
