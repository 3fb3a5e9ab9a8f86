use Rattle.std.proofs.Common.{[], inr, refl}
use Rattle.cap_streams.specs.Written.{Writes-nothing}
use Rattle.cap_run_report.proofs.object_parts.put_met.Goals as goal

pub returns-in-None-clause-written : goal.returns-in-None-clause-written
returns-in-None-clause-written g c = ([], inr (c.in-None.ensures.none, refl), Writes-nothing)
