use Rattle.std.proofs.Common.{◌≡◌, ◌<◌, length, vec_capacity}
use Rattle.tagmem.specs.{Blocks.numbers_of, Trees.AreTrees}
use Rattle.tagmem.proofs.trees.Trees.spread.Given as goal

abbrev pub invariant-loop-i : goal.invariant-loop-i
invariant-loop-i l = record {
  places : 0 < length l.self.roots.items;
  as_many : length l.self.links.items ≡ length l.fn.self.links.items;
  links : vec_capacity l.self.links ≡ vec_capacity l.fn.self.links;
  trees : AreTrees (numbers_of l.blocks) l.self.mask l.i l.self.roots.items l.self.links.items;
}
