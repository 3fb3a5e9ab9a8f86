use Rattle.std.proofs.Common.{◌≡◌, ◌<◌, ◌-◌}
use Rattle.cap_run_judge.specs.{OwnerLists.{lines_from, register_lines}}
use Rattle.cap_run_judge.proofs.owners.push_harts.Given as goal
use Rattle.cap_run.specs.Machines.{run_in}

-- the lines of the harts below this one were pushed
abbrev pub invariant-loop-hart : goal.invariant-loop-hart
invariant-loop-hart g l = record {
  taken : g.K.Sink.took l.fn.sink l.sink (lines_from (register_lines (run_in l.fn.machine)) 0 l.from);
  counted : g.K.Sink.faults l.sink ≡ g.K.Sink.faults l.fn.sink;
  inside : l.from < 65536;
}

abbrev pub decreases-loop-hart : goal.decreases-loop-hart
decreases-loop-hart g l = 65536 - l.from
