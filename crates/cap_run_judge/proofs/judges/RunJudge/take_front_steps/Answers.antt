use Rattle.std.proofs.Common.{[], refl}
use Rattle.cap_run_judge.specs.{Readings.stage_of, Turns.run_turns}
use Rattle.cap_run_judge.proofs.judges.RunJudge.take_front_steps.Goals as goal
use Rattle.cap_turns.proofs.TurnLemmas.{goes_none}

pub returns : goal.returns
returns g c = ([], refl, goes_none run_turns (stage_of c.args.self.now))
