use Rattle.cap_bounds.proofs.Decoded.{AreBounds-exists, AreBounds-unique, length_of-mantissa}
use Rattle.cap_bounds.proofs.decoding.bounds_are_unique.Goals as goal

pub returns-clause-exists : goal.returns-clause-exists
returns-clause-exists c = AreBounds-exists c.args.word.0

pub returns-clause-unique : goal.returns-clause-unique
returns-clause-unique c = AreBounds-unique c.args.word.0

pub returns-clause-length : goal.returns-clause-length
returns-clause-length c = length_of-mantissa c.args.word.0
