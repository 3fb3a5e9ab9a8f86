-- Where the next granule that was put is, by its block.
use Rattle.std.specs.FinMap as map
use Rattle.std.proofs.Common.{◌≡◌, ◌≢◌, ℕ, ◌+◌, ◌*◌, ◌/◌, ◌%◌, ◌^◌, ◌<◌, ◌≤◌, Bool, false, List, get_or, Option, Some, None}
use Rattle.std.proofs.{Common.{sym, refl, subst, ◌∙◌, arith, MatchOption}}
use Rattle.std.proofs.lemmas.{List.length-map}
use Rattle.tagmem.specs.{declared.block.Block.Block, Blocks.{slots_of, contents_of, IsFirstFrom}}
use Rattle.tagmem.specs.{Blocks.{numbers_of, AreDistinct, ArePaged, IsBlockAt}, Pages.IsLeast}
use Rattle.tagmem.specs.Granules.{Granules, AreStored, NonePut, IsNextPut}
use Rattle.tagmem.proofs.Blocks.{get_read, get_absent}

-- a granule that was put is below 2^60
pub put_below : (m : Granules) → AreStored m → (q : ℕ) → map.get m q ≢ None → q < 2 ^ 60
put_below m stored q put = elim (map.get m q) as (λ o. map.get m q ≡ o → q < 2 ^ 60)
    [ None ↦ λ is. absurd (put is) | Some entry ↦ λ is. (stored q entry is).in_memory ] refl

-- what is next after a stretch in which none was put
pub next_after : (m : Granules) (from to : ℕ) (next : Option ℕ) → from ≤ to → NonePut m from to
    → IsNextPut m to next → IsNextPut m from next
next_after m from to next le none after = grind (arith, none, after)

module _ (blocks : List Block) (known : AreDistinct (numbers_of blocks)) (n slot index : ℕ) (block : Block)
    (at : IsBlockAt blocks n index) (read : block ≡ get_or blocks index block) where
  get_own : (q : ℕ) → q / 8 ≡ n → map.get (contents_of blocks) q ≡ get_or (slots_of block) (q % 8) None
  get_own q own = get_read blocks known q index block (subst (λ m. IsBlockAt blocks m index) (sym own) at) read

  -- a block of which no slot from one on was put
  pub none_put_block : IsFirstFrom (slots_of block) slot None → NonePut (contents_of blocks) (8 * n + slot) (8 * n + 8)
  none_put_block none q le lt = get_own q (omega arith) ∙ none (q % 8) (omega arith)

  -- and one that has a first
  pub next_put_block : (first : ℕ) → first < 8 → IsFirstFrom (slots_of block) slot (Some first)
      → IsNextPut (contents_of blocks) (8 * n + slot) (Some (8 * n + first))
  next_put_block first small found = (
    omega (arith, found.0),
    λ is. found.1 (grind (arith, get_own (8 * n + first))),
    λ q le lt. get_own q (omega arith) ∙ found.2 (q % 8) (omega arith) (omega arith),
  )

-- nothing was put in a page that isn't there
pub none_in_page : (blocks : List Block) (there : ℕ → Bool) → ArePaged blocks there → (page : ℕ) → there page ≡ false
    → NonePut (contents_of blocks) (256 * page) (256 * page + 256)
none_in_page blocks there paged page absent q le lt = get_absent blocks q (λ index in_range is.
    grind (arith, paged.has index 0, length-map blocks (λ (b : Block). b.number)))

-- where a granule's page has none from it on
module _ (blocks : List Block) (there : ℕ → Bool) (paged : ArePaged blocks there) (g : ℕ)
    (none : NonePut (contents_of blocks) g (256 * (g / 256) + 256)) where
  -- there is none where no later page is
  pub next_put_last : IsLeast there (g / 256 + 1) None → IsNextPut (contents_of blocks) g None
  next_put_last absent =
      next_after (contents_of blocks) g (256 * (g / 256) + 256) None (omega arith) none
      (λ q le. none_in_page blocks there paged (q / 256) (absent (q / 256) (omega arith)) q (omega arith) (omega arith))

  -- else the next is the first of the least later page, which has one
  pub next_put_later : (page : ℕ) → IsLeast there (g / 256 + 1) (Some page) → (next : Option ℕ)
      → MatchOption next (NonePut (contents_of blocks) (8 * (32 * page)) (8 * (32 * page + 32)))
      (λ first. IsNextPut (contents_of blocks) (8 * (32 * page)) (Some first))
      → IsNextPut (contents_of blocks) g next
  next_put_later page later None empty = absurd (paged.used page later.1 (λ q le lt. empty q (omega arith) (omega arith)))
  next_put_later page later (Some first) found = next_after (contents_of blocks) g (8 * (32 * page)) (Some first) (omega (arith, later.0)) (λ q le lt.
      grind (arith, none q, later.2 (q / 256), none_in_page blocks there paged (q / 256))) found
