use Rattle.capcheck_c.proofs.decoding.capcheck_length.Goals as goal

pub returns-then-not-sound-clause-unsound : goal.returns-then-not-sound-clause-unsound
returns-then-not-sound-clause-unsound c = λ _. c.halves_of.ensures.value
