use Rattle.plain.proofs.Searched.{unit-lt}
use Rattle.plain.proofs.search.unit_at.Goals as goal

pub returns-clause-small : goal.returns-clause-small
returns-clause-small c = unit-lt c.args.e c.requires
