use Rattle.std.proofs.Common.{ℕ, suc, ◌-◌, ◌<◌, length}
use Rattle.tagmem.specs.{Blocks.IsBlockAt, Trees.LeadsTo}
use Rattle.tagmem.proofs.trees.Trees.find.Given as goal

abbrev pub invariant-loop-index : goal.invariant-loop-index
invariant-loop-index l = record {
  in_range : l.index < length l.blocks;
  sought : (i : ℕ) → IsBlockAt l.blocks l.number i → LeadsTo l.self.links.items l.bits (suc l.index) (suc i);
}

abbrev pub decreases-loop-index : goal.decreases-loop-index
decreases-loop-index l = length l.blocks - l.index
