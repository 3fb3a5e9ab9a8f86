use Rattle.cap_judge.proofs.EscapeLaws.{named}
use Rattle.cap_judge.proofs.laws.escapes_are_named_exactly.Goals as goal

pub returns : goal.returns
returns c = record { law = named }
