-- Where ways lead, and how a block is put at the end of one.
use Rattle.std.proofs.Common.{◌≡◌, ◌≢◌, ℕ, zero, suc, ◌+◌, ◌-◌, ◌*◌, ◌/◌, ◌%◌, ◌<◌, ◌≤◌, List, get_or, set}
use Rattle.std.proofs.Common.{length, refl, ◌∙◌, arith, get_or-set_same, get_or-set_other}
use Rattle.tagmem.specs.{declared.block.Block.Block, Blocks.{numbers_of, IsBlockAt}}
use Rattle.tagmem.proofs.Blocks.{by_equal}
use Rattle.tagmem.specs.Trees.{place_of, child_of, way, LeadsTo, AreKept, IsEnding, AreForward, AreTrees}

-- from no block a way leads to none
nowhere : (links : List ℕ) (bits steps : ℕ) → (way links bits 0 steps).1 ≡ 0
nowhere links bits zero = refl
nowhere links bits (suc steps) = nowhere links (bits / 2) steps

pub leads_nowhere : (links : List ℕ) (bits link index : ℕ) → link ≡ 0 → LeadsTo links bits link (suc index) → ⊥
leads_nowhere links bits link index none to = to (λ steps is. grind (arith, nowhere links bits steps))

-- what isn't at the first block of a way is further on
pub leads_on : (links : List ℕ) (bits first index : ℕ) → first ≢ index → LeadsTo links bits (suc first) (suc index)
    → LeadsTo links (bits / 2) (child_of links (suc first) (bits % 2)) (suc index)
leads_on links bits first index differs to further = to (λ steps is. grind (arith, further (steps - 1)))

-- a link leads to its block, and to where its child leads
pub leads_from : (links : List ℕ) (bits index to child : ℕ) → get_or links (2 * index + bits % 2) 0 ≡ child
    → LeadsTo links (bits / 2) child (suc to) → LeadsTo links bits (suc index) (suc to)
leads_from links bits index to child is led none = led (λ steps at. grind (arith, none (suc steps)))

-- what a way leads to it leads to with more links
module _ (links more : List ℕ) (kept : AreKept links more) where
  way-kept : (bits link steps : ℕ) → (way links bits link steps).1 ≢ 0 → way more bits link steps ≡ way links bits link steps
  way-kept bits link zero some = refl
  way-kept bits zero (suc steps) some = way-kept (bits / 2) 0 steps some
  way-kept bits (suc i) (suc steps) some =
      grind (arith, kept (2 * i + bits % 2), nowhere links (bits / 2) steps, way-kept (bits / 2) (child_of links (suc i) (bits % 2)) steps)

  leads-kept : (bits link other : ℕ) → LeadsTo links bits link (suc other) → LeadsTo more bits link (suc other)
  leads-kept bits link other to none = to (λ steps is. grind (arith, none steps, way-kept bits link steps))

-- a list in which one link is set
module _ (links : List ℕ) (place value : ℕ) (in_range : place < length links) where
  kept-set : get_or links place 0 ≡ 0 → AreKept links (set links place value)
  kept-set none p some = grind (arith, get_or-set_other links place p value 0)

-- the trees with one block more
module _ (numbers : List ℕ) (mask limit : ℕ) (roots links : List ℕ) (trees : AreTrees numbers mask limit roots links)
    (number place : ℕ) (number_is : number ≡ get_or numbers limit 0) (place_is : place ≡ place_of mask number) where
  with_last : (more_roots more : List ℕ) → AreForward more (limit + 1) → ((p : ℕ) → get_or more_roots p 0 ≤ limit + 1)
      → AreKept roots more_roots → AreKept links more → LeadsTo more number (get_or more_roots place 0) (suc limit)
      → AreTrees numbers mask (limit + 1) more_roots more
  with_last more_roots more forward rooted kept_roots kept led = record {
    forward = forward;
    rooted = rooted;
    leads = λ index lt. by_equal index limit _ (λ same. grind arith) (λ differs.
        let old = trees.leads index (omega arith) in
        rw (kept_roots (place_of mask (get_or numbers index 0)) (λ none. leads_nowhere links _ _ index none old))
        (leads-kept links more kept _ _ index old));
  }

  -- as a root
  pub AreTrees-root : get_or roots place 0 ≡ 0 → place < length roots
      → AreTrees numbers mask (limit + 1) (set roots place (limit + 1)) links
  AreTrees-root none in_range = with_last (set roots place (limit + 1)) links
      (record { after = trees.forward.after; within = λ p. omega (arith, trees.forward.within p) })
      (λ p. grind (arith, get_or-set_same roots place (limit + 1) 0, get_or-set_other roots place p (limit + 1) 0, trees.rooted p))
      (kept-set roots place (limit + 1) in_range none) (λ p some. refl)
      (λ none. none 0 (get_or-set_same roots place (limit + 1) 0 in_range ∙ omega arith))

  -- and as a child at the end of its way
  pub AreTrees-child : (root parent side : ℕ) → get_or roots place 0 ≡ root → IsEnding links number root parent side
      → AreTrees numbers mask (limit + 1) roots (set links (2 * parent + side) (limit + 1))
  AreTrees-child root parent side root_is ends =
      let le = ends.within limit (rw (← root_is) (trees.rooted place)) trees.forward.within in
      let own = get_or-set_same links (2 * parent + side) (limit + 1) 0 ends.in_range in
      let other = λ (p : ℕ). get_or-set_other links (2 * parent + side) p (limit + 1) 0 in
      let kept = kept-set links (2 * parent + side) (limit + 1) ends.in_range ends.none in
      with_last roots (set links (2 * parent + side) (limit + 1))
      (record {
        after = λ p. grind (arith, own, other p, ends.small, le, trees.forward.after p);
        within = λ p. grind (arith, own, other p, trees.forward.within p);
      })
      (λ p. omega (arith, trees.rooted p)) (λ p some. refl) kept
      (rw root_is (ends.goes_on (set links (2 * parent + side) (limit + 1)) limit kept (own ∙ omega arith)))

-- numbers behind the limit don't matter, nor links that are none
pub AreTrees-alike : (old new : List ℕ) (mask limit : ℕ) (roots links more : List ℕ)
    → ((index : ℕ) → index < limit → get_or new index 0 ≡ get_or old index 0)
    → ((place : ℕ) → get_or more place 0 ≡ get_or links place 0)
    → AreTrees old mask limit roots links → AreTrees new mask limit roots more
AreTrees-alike old new mask limit roots links more alike same trees = record {
  forward = record {
    after = λ place. rw (same place) (trees.forward.after place);
    within = λ place. rw (same place) (trees.forward.within place);
  };
  rooted = trees.rooted;
  leads = λ index lt. rw (alike index lt) (leads-kept links more (λ place some. same place) (get_or old index 0) _ index (trees.leads index lt));
}

-- from the root of its place the way of a number leads to its block
pub leads_from_root : (blocks : List Block) (mask : ℕ) (roots links : List ℕ)
    → AreTrees (numbers_of blocks) mask (length blocks) roots links
    → (number i : ℕ) → IsBlockAt blocks number i → LeadsTo links number (get_or roots (place_of mask number) 0) (suc i)
leads_from_root blocks mask roots links trees number i at = rw at.has_number at (trees.leads i at.in_range)
