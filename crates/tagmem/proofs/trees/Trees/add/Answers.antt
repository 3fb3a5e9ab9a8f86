use Rattle.std.proofs.Common.{◌≡◌, suc, ◌-◌, ◌<◌, get_or, length, ◌∙◌, arith}
use Rattle.std.proofs.lemmas.{Grind.get_or_default_zero, List.get_or-map, Nat.and_le_r}
use Rattle.tagmem.specs.{declared.block.Block.Block, Blocks.numbers_of}
use Rattle.tagmem.proofs.Ways.{AreTrees-root, AreTrees-child}
use Rattle.tagmem.proofs.trees.Trees.add.Goals.{After-index-root}
use Rattle.tagmem.proofs.trees.Trees.add.Goals as goal

-- the number of the block, and the root of its place
module _ (c : After-index-root) where
  number_is : (get_or c.args.blocks.now c.args.index c.index-blocks-index.result).number ≡ get_or (numbers_of c.args.blocks.now) c.args.index 0
  number_is = grind (arith, get_or-map (λ (b : Block). b.number) c.args.blocks.now c.args.index c.index-blocks-index.result 0)

  in_range : c.place-place.result < length c.args.self.now.roots.items
  in_range = grind (arith, and_le_r, c.args.self.now.masked)

  root_is : get_or c.args.self.now.roots.items c.place-place.result 0 ≡ c.index-root.result.now
  root_is = grind (arith, in_range, get_or_default_zero c.args.self.now.roots.items c.place-place.result c.index-root.result.now)

pub returns-then-root-eq0-clause-trees : goal.returns-then-root-eq0-clause-trees
returns-then-root-eq0-clause-trees c =
    let s = c.args.self.now in
    let after = (goal.at.returns-then-root-eq0-clause-trees c).After-index-root in
    AreTrees-root (numbers_of c.args.blocks.now) s.mask c.args.index s.roots.items s.links.items c.requires.trees _ c.place-place.result
    (number_is after) c.place-place.ensures (root_is after ∙ c.if-root-eq0.true) (in_range after)

pub returns-clause-trees : goal.returns-clause-trees
returns-clause-trees c =
    let s = c.args.self.now in
    let after = (goal.at.returns-clause-trees c).After-index-root in
    let root = c.index-root.result.now in
    let counted : suc (root - 1) ≡ root = let some = c.if-root-eq0.false in omega arith in
    AreTrees-child (numbers_of c.args.blocks.now) s.mask c.args.index s.roots.items s.links.items c.requires.trees _ c.place-place.result
    (number_is after) c.place-place.ensures root c.end-parent.result.0 c.end-parent.result.1 (root_is after)
    (rw (c.deref.ensures.value, counted) at c.end-parent.ensures)
