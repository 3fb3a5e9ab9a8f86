use Rattle.std.proofs.Common.{◌≡◌, ◌-◌, ◌≤◌, ◌^◌}
use Rattle.cap_judge.specs.OriginLists.{held_lines}
use Rattle.cap_judge.proofs.origins.push_granules.Given as goal

-- the lines of the granules below this one were pushed
abbrev pub invariant-loop-granule : goal.invariant-loop-granule
invariant-loop-granule g l = record {
  taken : g.K.Sink.took l.fn.sink l.sink (held_lines l.fn.machine 32 l.from);
  counted : g.K.Sink.faults l.sink ≡ g.K.Sink.faults l.fn.sink;
  inside : l.from ≤ 2 ^ 60;
}

abbrev pub decreases-loop-granule : goal.decreases-loop-granule
decreases-loop-granule g l = 2 ^ 60 - l.from
