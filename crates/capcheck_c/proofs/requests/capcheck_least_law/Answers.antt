use Rattle.std.proofs.lemmas.Bool.{false≢true}
use Rattle.capcheck_c.proofs.requests.capcheck_least_law.Goals as goal

pub returns-then-not-sound-clause-unsound : goal.returns-then-not-sound-clause-unsound
returns-then-not-sound-clause-unsound c = λ _ is. false≢true is
