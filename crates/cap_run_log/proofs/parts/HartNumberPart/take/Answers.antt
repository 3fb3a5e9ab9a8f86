use Rattle.cap_run_log.proofs.parts.HartNumberPart.take.Goals as goal

pub returns-clause-some : goal.returns-clause-some
returns-clause-some c = let begins = c.in-Some.ensures.some in (begins.0.1, begins.1)
