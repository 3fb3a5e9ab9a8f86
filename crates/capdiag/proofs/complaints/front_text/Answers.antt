use Rattle.std.proofs.Common.{ap, sym}
use Rattle.capdiag.specs.Complaints.{front_text}
use Rattle.capdiag.proofs.complaints.front_text.Goals as goal

pub returns-in-UnknownOption-clause-text : goal.returns-in-UnknownOption-clause-text
returns-in-UnknownOption-clause-text c = sym (ap front_text c.in-UnknownOption.is)
