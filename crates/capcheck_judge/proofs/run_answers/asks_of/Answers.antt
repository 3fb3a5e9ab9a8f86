use Rattle.std.proofs.Common.{refl}
use Rattle.capcheck_judge.proofs.run_answers.asks_of.Goals as goal

pub returns : goal.returns
returns c = record { value = refl }
