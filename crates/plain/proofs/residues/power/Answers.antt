use Rattle.plain.proofs.Signed.{power_is, size-fits}
use Rattle.plain.proofs.residues.power.Goals as goal

pub returns : goal.returns
returns c = power_is c.args.bits c.requires

pub overflow_cast-result-2 : goal.overflow_cast-result-2
overflow_cast-result-2 c = size-fits c.args.bits c.requires
