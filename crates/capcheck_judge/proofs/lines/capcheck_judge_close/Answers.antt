use Rattle.capcheck_judge.proofs.lines.capcheck_judge_close.Goals as goal

pub returns : goal.returns
returns c = record { none = cc }
