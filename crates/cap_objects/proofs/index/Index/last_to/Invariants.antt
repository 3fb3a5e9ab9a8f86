use Rattle.std.proofs.Common.{◌≡◌, ◌≤◌, ℕ, Some, length, drop}
use Rattle.cap_objects.specs.Blocks.{find_in}
use Rattle.cap_objects.proofs.index.Index.last_to.Given as goal

abbrev pub invariant-down : goal.invariant-down
invariant-down l = record {
  within : l.count ≤ length l.self.blocks.items;
  none : (key slot : ℕ) → key ≤ l.key → find_in key (drop l.count l.self.blocks.items) ≡ Some slot → ⊥;
}

abbrev pub decreases-down : goal.decreases-down
decreases-down l = l.count
