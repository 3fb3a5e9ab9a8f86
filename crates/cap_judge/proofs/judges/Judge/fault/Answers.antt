use Rattle.cap_judge.proofs.judges.Judge.fault.Goals as goal

pub returns-clause-line : goal.returns-clause-line
returns-clause-line g c = c.next_line.ensures
