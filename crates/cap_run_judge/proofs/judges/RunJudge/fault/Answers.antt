use Rattle.cap_run_judge.proofs.judges.RunJudge.fault.Goals as goal

pub returns-clause-line : goal.returns-clause-line
returns-clause-line g c = c.next_line.ensures.value
