use Rattle.cap_run_judge.proofs.GuardLemmas.{run_guarded}
use Rattle.cap_run_judge.proofs.laws.run_logs_are_guarded.Goals as goal

pub returns : goal.returns
returns c = record { law = run_guarded }
