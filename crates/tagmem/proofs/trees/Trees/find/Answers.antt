use Rattle.std.proofs.Common.{◌≡◌, ◌≢◌, ℕ, suc, ◌-◌, ◌+◌, ◌*◌, ◌/◌, ◌%◌, arith}
use Rattle.std.proofs.lemmas.{Grind.get_or_default_zero, List.get_or-map}
use Rattle.tagmem.specs.{declared.block.Block.Block, Blocks.{IsBlockAt}, Trees.{LeadsTo, child_of}}
use Rattle.tagmem.proofs.Ways.{leads_nowhere, leads_on}
use Rattle.tagmem.proofs.trees.Trees.find.Goals.{After-index-child}
use Rattle.tagmem.proofs.trees.Trees.find.Goals as goal

-- from another block's child the way leads to the block with the number
from_child : (c : After-index-child) → (i : ℕ) → IsBlockAt c.args.blocks.now c.args.number i
    → LeadsTo c.args.self.now.links.items (c.loop-index.bits / 2) c.index-child.result.now (suc i)
from_child c i at =
    let s = c.args.self.now in
    let links = s.links.items in
    let index = c.loop-index.index in
    let block = c.index-blocks-index.result in
    let differs : index ≢ i = λ same. grind (arith, at.has_number, get_or-map (λ (b : Block). b.number) c.args.blocks.now index block 0) in
    let child : c.index-child.result.now ≡ child_of links (suc index) (c.loop-index.bits % 2) =
    grind (arith, get_or_default_zero links (2 * index + c.loop-index.bits % 2) c.index-child.result.now) in
    rw child (leads_on links c.loop-index.bits index i differs (c.loop-index.invariant.sought i at))

pub returns-then-child-eq0 : goal.returns-then-child-eq0
returns-then-child-eq0 c = λ i lt is.
    leads_nowhere c.args.self.now.links.items (c.loop-index.bits / 2) c.index-child.result.now i c.if-child-eq0.true
    (from_child (goal.at.returns-then-child-eq0 c).After-index-child i (record { in_range = lt; has_number = is }))

pub loop-index-preserved : goal.loop-index-preserved
loop-index-preserved c =
    let s = c.args.self.now in
    let child = c.index-child.result.now in
    let counted : child ≡ suc (child - 1) = omega (arith, c.if-child-eq0.false) in
    let place = 2 * c.loop-index.index + c.loop-index.bits % 2 in
    record {
      in_range = grind (arith, get_or_default_zero s.links.items place child, c.requires.trees.forward.within place);
      sought = λ i at. rw (← counted) (from_child (goal.at.loop-index-preserved c).After-index-child i at);
    }
