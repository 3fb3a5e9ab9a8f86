use Rattle.std.proofs.Common.{◌≡◌, ◌-◌, ◌≤◌, length, take}
use Rattle.cap_streams.proofs.sinks.push_all.Given as goal

-- the sink took what is done
abbrev pub invariant-loop-done : goal.invariant-loop-done
invariant-loop-done g l = record {
  taken : g.K.Sink.took l.fn.sink l.sink (take l.done l.text);
  counted : g.K.Sink.faults l.sink ≡ g.K.Sink.faults l.fn.sink;
  within : l.done ≤ length l.text;
}

abbrev pub decreases-loop-done : goal.decreases-loop-done
decreases-loop-done g l = length l.text - l.done
