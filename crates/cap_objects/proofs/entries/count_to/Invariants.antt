use Rattle.std.proofs.Common.{◌-◌, ◌<◌, ◌≤◌, length, take, drop}
use Rattle.cap_objects.specs.Blocks.{Each}
use Rattle.cap_objects.proofs.entries.count_to.Given as goal

abbrev pub invariant-halves : goal.invariant-halves
invariant-halves l = record {
  order : l.low ≤ l.high;
  within : l.high ≤ length l.entries;
  under : Each (λ entry. entry.key ≤ l.key) (take l.low l.entries);
  over : Each (λ entry. l.key < entry.key) (drop l.high l.entries);
}

abbrev pub decreases-halves : goal.decreases-halves
decreases-halves l = l.high - l.low
