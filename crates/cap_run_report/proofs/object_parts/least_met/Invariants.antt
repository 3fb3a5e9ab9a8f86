use Rattle.std.proofs.Common.{◌+◌, ◌-◌, ◌≤◌, MatchOption}
use Rattle.cap_run_report.specs.ObjectParts.{IsLeastMet, MeetsNone}
use Rattle.cap_run_report.proofs.object_parts.least_met.Given as goal
use Rattle.cap_run.specs.Machines.{run_in}

-- what was found is the least among the objects whose numbers are below this one
abbrev pub invariant-loop-object : goal.invariant-loop-object
invariant-loop-object g l = record {
  least : MatchOption l.found (MeetsNone (run_in l.fn.machine) l.fn.left_out l.fn.freed l.fn.base l.fn.top l.from)
      (IsLeastMet (run_in l.fn.machine) l.fn.left_out l.fn.freed l.fn.base l.fn.top l.from);
  few : l.from ≤ l.fn.machine.objects.count + 1;
}

abbrev pub decreases-loop-object : goal.decreases-loop-object
decreases-loop-object g l = l.fn.machine.objects.count + 1 - l.from
