use Rattle.capdiag.proofs.renderings.judge_source.Goals as goal

pub returns-in-Run-clause-done : goal.returns-in-Run-clause-done
returns-in-Run-clause-done g c = rw c.in-Run.is c.judge_run_source.ensures.done
