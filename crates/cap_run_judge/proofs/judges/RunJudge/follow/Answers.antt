use Rattle.std.proofs.Common.{refl}
use Rattle.cap_run_judge.proofs.judges.RunJudge.follow.Goals as goal

pub returns-in-Mode : goal.returns-in-Mode
returns-in-Mode g c = rw (c.in-Second.is, c.in-Mode.is) (refl, cc (c.follow.ensures.run, c.follow.ensures.asks, c.rules_of.ensures))
