use Rattle.std.proofs.Common.{◌≡◌, ◌+◌, ◌-◌, ◌≤◌}
use Rattle.cap_run_judge.specs.{OwnerLists.{lines_from, numbered_line}}
use Rattle.cap_run_judge.proofs.owners.push_objects.Given as goal
use Rattle.cap_run.specs.Machines.{run_in}

-- the lines of the objects whose numbers are below this one were pushed
abbrev pub invariant-loop-object : goal.invariant-loop-object
invariant-loop-object g l = record {
  taken : g.K.Sink.took l.fn.sink l.sink (lines_from (numbered_line (run_in l.fn.machine)) 1 (l.from - 1));
  counted : g.K.Sink.faults l.sink ≡ g.K.Sink.faults l.fn.sink;
  some : 1 ≤ l.from;
  few : l.from ≤ l.fn.machine.objects.count + 1;
}

abbrev pub decreases-loop-object : goal.decreases-loop-object
decreases-loop-object g l = l.fn.machine.objects.count + 1 - l.from
