use Rattle.std.proofs.Common.{◌≡◌, ◌-◌}
use Rattle.cap_judge.specs.OriginLists.{held_lines}
use Rattle.cap_judge.proofs.origins.push_registers.Given as goal

-- the lines of the registers below this one were pushed
abbrev pub invariant-loop-number : goal.invariant-loop-number
invariant-loop-number g l = record {
  taken : g.K.Sink.took l.fn.sink l.sink (held_lines l.fn.machine 1 (l.number - 1));
  counted : g.K.Sink.faults l.sink ≡ g.K.Sink.faults l.fn.sink;
}
