use Rattle.cap_run_report.specs.ObjectParts.{OwnsNone}
use Rattle.cap_run_report.proofs.object_parts.register_holder.Given as goal
use Rattle.cap_run.specs.Machines.{run_in}

-- no register before this one is the object's
abbrev pub invariant-loop-register : goal.invariant-loop-register
invariant-loop-register g l = OwnsNone (run_in l.fn.machine) l.fn.number l.fn.hart l.register
