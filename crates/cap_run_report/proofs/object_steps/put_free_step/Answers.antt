use Rattle.std.proofs.Common.{[]}
use Rattle.cap_streams.specs.Written.{Writes-nothing}
use Rattle.cap_run_report.proofs.StepLemmas.{free_other}
use Rattle.cap_run_report.proofs.object_steps.put_free_step.Goals as goal
use Rattle.cap_run.specs.Machines.{run_in}

pub returns-in_default-clause-written : goal.returns-in_default-clause-written
returns-in_default-clause-written g c =
    ([], free_other (run_in c.args.machine.now) c.args.number c.args.refusal c.in_default.not-AlreadyFreed c.in_default.not-NoObject, Writes-nothing)
