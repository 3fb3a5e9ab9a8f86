use Rattle.cap_run_judge.proofs.ErasedLogs.{erased_yes}
use Rattle.cap_run_judge.proofs.laws.run_logs_are_accepted_without_objects.Goals as goal

pub returns : goal.returns
returns c = record { law = erased_yes }
