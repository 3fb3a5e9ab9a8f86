use Rattle.cap_machine.proofs.EscapeLemmas.{clears_along}
use Rattle.cap_machine.proofs.laws.runs_clear_exactly.Goals as goal

pub returns : goal.returns
returns c = record { law = clears_along }
