use Rattle.std.proofs.Common.{[], ◌++◌, inr, refl}
use Rattle.cap_run_judge.proofs.{EndLemmas.{end_told, fault_told}, CountLemmas.run_lawful}
use Rattle.cap_turns.proofs.{FollowLemmas.faults_at, EndLemmas.lacks_memory, TurnLemmas.goes_on}
use Rattle.cap_run_judge.proofs.laws.stages_are_of_run_logs.Goals as goal
use Rattle.cap_run_judge.specs.Turns.{run_turns}

pub returns : goal.returns
returns c = record {
  goes_on = goes_on run_turns;
  fault = λ asks front rest middle new ended verdict text goes faults.
      fault_told asks (front ++ rest) new [] ended verdict text (inr (front, rest, refl, middle, goes, faults)) (faults_at run_turns middle rest new faults);
  memory = λ asks front rest more stage goes. lacks_memory run_turns (run_lawful asks) front rest stage goes more;
  ends = end_told;
}
