use Rattle.std.proofs.Common.{◌≡◌, ◌-◌, ◌≤◌, ◌^◌}
use Rattle.cap_run_log.specs.declared.lines.RunPlace.TheVariants.{Granule}
use Rattle.cap_run_judge.specs.{OwnerLists.{lines_from, place_line}}
use Rattle.cap_run_judge.proofs.owners.push_granules.Given as goal
use Rattle.cap_run.specs.Machines.{run_in}

-- the lines of the granules below this one were pushed
abbrev pub invariant-loop-granule : goal.invariant-loop-granule
invariant-loop-granule g l = record {
  taken : g.K.Sink.took l.fn.sink l.sink (lines_from (λ granule. place_line (run_in l.fn.machine) 0 (Granule granule)) 0 l.from);
  counted : g.K.Sink.faults l.sink ≡ g.K.Sink.faults l.fn.sink;
  inside : l.from ≤ 2 ^ 60;
}

abbrev pub decreases-loop-granule : goal.decreases-loop-granule
decreases-loop-granule g l = 2 ^ 60 - l.from
