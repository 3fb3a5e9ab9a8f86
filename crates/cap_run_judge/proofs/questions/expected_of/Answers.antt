use Rattle.std.proofs.Common.{ap, sym}
use Rattle.cap_judge.specs.Expectations.{expected_of}
use Rattle.cap_run_judge.proofs.questions.expected_of.Goals as goal

pub returns-in-Number : goal.returns-in-Number
returns-in-Number c = ap expected_of (sym c.in-Number.is)
