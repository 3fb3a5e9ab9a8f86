use Rattle.std.proofs.Common.{◌-◌, ◌<◌, ◌≤◌, length, take, drop}
use Rattle.cap_objects.specs.Blocks.{Each}
use Rattle.cap_objects.proofs.index.Index.count_to.Given as goal

abbrev pub invariant-halves : goal.invariant-halves
invariant-halves l = record {
  order : l.low ≤ l.high;
  within : l.high ≤ length l.self.blocks.items;
  under : Each (λ block. block.first ≤ l.key) (take l.low l.self.blocks.items);
  over : Each (λ block. l.key < block.first) (drop l.high l.self.blocks.items);
}

abbrev pub decreases-halves : goal.decreases-halves
decreases-halves l = l.high - l.low
