use Rattle.std.proofs.Common.{◌≡◌, ℕ, suc, ◌-◌, List, [], ◌∷◌, ◌++◌, get_or, length, refl, ◌∙◌, arith}
use Rattle.tagmem.specs.Blocks.{numbers_of}
use Rattle.tagmem.proofs.Ways.{AreTrees-alike}
use Rattle.tagmem.proofs.trees.Trees.push.Goals as goal

-- a link to nothing at the end is as none
same_links : (links : List ℕ) (place : ℕ) → get_or (links ++ 0 ∷ []) place 0 ≡ get_or links place 0
same_links (link ∷ links) (suc place) = same_links links place
same_links links place = grind arith

pub add-requires-clause-trees : goal.add-requires-clause-trees
add-requires-clause-trees c =
    let s = c.args.self.now in
    let numbers = numbers_of c.args.blocks.now in
    let links = s.links.items in
    rw (c.push_reserved-2.ensures.items, c.push_reserved.ensures.items)
    (AreTrees-alike numbers numbers s.mask (length c.args.blocks.now - 1) s.roots.items links ((links ++ 0 ∷ []) ++ 0 ∷ []) (λ index lt. refl)
    (λ place. same_links (links ++ 0 ∷ []) place ∙ same_links links place)
    (c.requires.trees (length c.args.blocks.now - 1) (omega (arith, c.requires.as_many))))
