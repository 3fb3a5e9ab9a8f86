use Rattle.cap_run_log.proofs.parts.ObjectNumberPart.take.Goals as goal

pub returns-clause-some : goal.returns-clause-some
returns-clause-some c = c.in-Some.ensures.some
