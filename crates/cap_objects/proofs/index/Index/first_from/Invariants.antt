use Rattle.std.proofs.Common.{◌≡◌, ◌≤◌, ◌-◌, ℕ, Some, length, take}
use Rattle.cap_objects.specs.Blocks.{find_in}
use Rattle.cap_objects.proofs.index.Index.first_from.Given as goal

abbrev pub invariant-up : goal.invariant-up
invariant-up l = record {
  none : (key slot : ℕ) → l.key ≤ key → find_in key (take l.place l.self.blocks.items) ≡ Some slot → ⊥;
}

abbrev pub decreases-up : goal.decreases-up
decreases-up l = length l.self.blocks.items - l.place
