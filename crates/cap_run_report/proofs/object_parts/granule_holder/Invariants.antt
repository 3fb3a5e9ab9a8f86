use Rattle.std.proofs.Common.{◌-◌, ◌≤◌, ◌^◌}
use Rattle.cap_run_report.specs.ObjectParts.{OwnsNoGranule}
use Rattle.cap_run_report.proofs.object_parts.granule_holder.Given as goal
use Rattle.cap_run.specs.Machines.{run_in}

-- no granule below this one is the object's
abbrev pub invariant-loop-granule : goal.invariant-loop-granule
invariant-loop-granule g l = record {
  none : OwnsNoGranule (run_in l.fn.machine) l.fn.number l.from;
  inside : l.from ≤ 2 ^ 60;
}

abbrev pub decreases-loop-granule : goal.decreases-loop-granule
decreases-loop-granule g l = 2 ^ 60 - l.from
