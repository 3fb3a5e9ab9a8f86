-- Which pages a `Directory` has, and the room that is reserved for blocks that aren't there yet. This profile's own.
use Rattle.std.specs.Prelude.{ℕ, suc, ◌*◌, ◌<◌, ◌≤◌, Bool, true, false, Result, length, vec_capacity}
use Rattle.tagmem.specs.declared.{directory.Directory.Directory, trees.Trees.Trees}
use Rattle.tagmem.specs.{Orders.IsStanding, Regions.{is_there, links_of, numbers_of}}

-- the page with a number is there
abbrev pub there_in : Directory → ℕ → Bool
there_in directory = is_there directory.regions.items

-- where the region with a number stands, or else its way ends
abbrev pub IsRegionIn : Directory → ℕ → Result ℕ (ℕ × ℕ) → Type 0
IsRegionIn directory = IsStanding (numbers_of directory.regions.items) (links_of directory.roots.items directory.regions.items)

-- trees have room for so many blocks in all
pub record HasRoomFor (trees : Trees) (many : ℕ) : Type 0 where
  pub links : 2 * many ≤ vec_capacity trees.links
  pub roots : 0 < many → 0 < length trees.roots.items

-- how many blocks the pages that are there have places for
abbrev pub blocks_of : Directory → ℕ
blocks_of directory = 32 * directory.count

-- how many they have with a page that is there, or else is added
abbrev pub blocks_with : Directory → Bool → ℕ
blocks_with directory true = 32 * directory.count
blocks_with directory false = 32 * suc directory.count
