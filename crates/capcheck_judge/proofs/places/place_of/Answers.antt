use Rattle.std.proofs.Common.{refl}
use Rattle.capcheck_judge.proofs.places.place_of.Goals as goal

pub returns-in-2-clause-granule : goal.returns-in-2-clause-granule
returns-in-2-clause-granule c = λ is. refl
