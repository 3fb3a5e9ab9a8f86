use Rattle.std.proofs.Common.{◌≡◌, ◌-◌}
use Rattle.cap_run.specs.HartPlaces.{place_numbered}
use Rattle.cap_run_judge.specs.{OwnerLists.{lines_from, place_line}}
use Rattle.cap_run_judge.proofs.owners.push_registers.Given as goal
use Rattle.cap_run.specs.Machines.{run_in}

-- the lines of the registers below this one were pushed
abbrev pub invariant-loop-number : goal.invariant-loop-number
invariant-loop-number g l = record {
  taken : g.K.Sink.took l.fn.sink l.sink (lines_from (λ number. place_line (run_in l.fn.machine) l.fn.hart (place_numbered number)) 1 (l.number - 1));
  counted : g.K.Sink.faults l.sink ≡ g.K.Sink.faults l.fn.sink;
}
