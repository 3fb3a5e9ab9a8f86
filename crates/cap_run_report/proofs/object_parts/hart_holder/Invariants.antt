use Rattle.std.proofs.Common.{◌-◌, ◌<◌}
use Rattle.cap_run_report.specs.ObjectParts.{OwnsNoRegister}
use Rattle.cap_run_report.proofs.object_parts.hart_holder.Given as goal
use Rattle.cap_run.specs.Machines.{run_in}

-- no register of a hart before this one is the object's
abbrev pub invariant-loop-hart : goal.invariant-loop-hart
invariant-loop-hart g l = record {
  none : OwnsNoRegister (run_in l.fn.machine) l.fn.number l.from;
  inside : l.from < 65536;
}

abbrev pub decreases-loop-hart : goal.decreases-loop-hart
decreases-loop-hart g l = 65536 - l.from
