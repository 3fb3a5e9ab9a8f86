use Rattle.cap_machine.proofs.OriginLemmas.{last_after}
use Rattle.cap_machine.proofs.laws.runs_end_in_accounts.Goals as goal

pub returns : goal.returns
returns c = record { law = last_after }
