-- The blocks that a `PageStore` keeps, and the map that they are. All of it is this profile's own.
use Rattle.std.specs.Prelude.{◌≡◌, ℕ, suc, ◌+◌, ◌*◌, ◌/◌, ◌<◌, ◌≤◌, ◌≢◌, Bool, true, List, [], ◌∷◌, ◌++◌, length, map}
use Rattle.std.specs.{Prelude.{All, Option, Some, None, unwrap_or, slice_index, slice_index_or}, FinMap.from_entries, List.AllPairs}
use Rattle.tagmem.specs.{declared.block.Block.Block, Granules.{Entry, Granules, blank, NonePut}}

-- a slot, where it was put: its tag, and its bytes and its code beside that
abbrev pub slot_with : Option Bool → List ℕ → ℕ → Option Entry
slot_with None row code = None
slot_with (Some tag) row code = Some (tag, row, code)

-- the slots that tags, bytes and codes side by side are
abbrev pub slots_with : List (Option Bool) → List (List ℕ) → List ℕ → List (Option Entry)
slots_with [] rows codes = []
slots_with (tag ∷ tags) [] codes = []
slots_with (tag ∷ tags) (row ∷ rows) [] = []
slots_with (tag ∷ tags) (row ∷ rows) (code ∷ codes) = slot_with tag row code ∷ slots_with tags rows codes

-- what stands in each granule of a block, where it was put: all that is said of how a block keeps it
abbrev pub slots_of : Block → List (Option Entry)
slots_of block = slots_with block.tags block.rows block.codes

-- the bytes of a slot, put or not
abbrev pub bytes_in_slot : List (Option Entry) → ℕ → List ℕ
bytes_in_slot slots slot = let entry = unwrap_or (slice_index_or slots slot None) blank in entry.1

-- the code of a slot, put or not
abbrev pub code_in_slot : List (Option Entry) → ℕ → ℕ
code_in_slot slots slot = let entry = unwrap_or (slice_index_or slots slot None) blank in entry.2

-- the first slot from one on that was put, where there is one
abbrev pub IsFirstFrom : List (Option Entry) → ℕ → Option ℕ → Type 0
IsFirstFrom slots from None = (slot : ℕ) → from ≤ slot → slice_index_or slots slot None ≡ None
IsFirstFrom slots from (Some first) =
    (from ≤ first) × (slice_index_or slots first None ≢ None)
    × ((slot : ℕ) → from ≤ slot → slot < first → slice_index_or slots slot None ≡ None)

-- a granule's entry before others, where it was put
abbrev pub with_slot : ℕ → Option Entry → List (ℕ × Entry) → List (ℕ × Entry)
with_slot granule None rest = rest
with_slot granule (Some entry) rest = (granule, entry) ∷ rest

-- the entries of slots, the first of which is a granule's
abbrev pub entries_from : ℕ → List (Option Entry) → List (ℕ × Entry)
entries_from granule [] = []
entries_from granule (slot ∷ slots) = with_slot granule slot (entries_from (suc granule) slots)

-- the entries of blocks: block n has the eight granules from 8 * n on
abbrev pub entries_of : List Block → List (ℕ × Entry)
entries_of [] = []
entries_of (block ∷ blocks) = entries_from (8 * block.number) (slots_of block) ++ entries_of blocks

-- the map that blocks are
abbrev pub contents_of : List Block → Granules
contents_of blocks = from_entries (entries_of blocks)

-- the numbers of blocks
abbrev pub numbers_of : List Block → List ℕ
numbers_of blocks = map (λ block. block.number) blocks

-- the number of the block at an index
abbrev pub block_number_at : List Block → ℕ → ℕ
block_number_at blocks index = slice_index (numbers_of blocks) index

-- the block at an index has the number
pub record IsBlockAt (blocks : List Block) (number index : ℕ) : Type 0 where
  pub in_range : index < length blocks
  pub has_number : block_number_at blocks index ≡ number

-- no block has the number
abbrev pub IsAbsent : List Block → ℕ → Type 0
IsAbsent blocks number = (index : ℕ) → index < length blocks → block_number_at blocks index ≢ number

-- no number stands twice
abbrev pub AreDistinct : List ℕ → Type 0
AreDistinct numbers = AllPairs (λ number other. number ≢ other) numbers

-- the page of each block is there, and in each page that is there a granule was put: page n has the blocks from 32 * n on
pub record ArePaged (blocks : List Block) (there : ℕ → Bool) : Type 0 where
  pub has : All (λ number. there (number / 32) ≡ true) (numbers_of blocks)
  pub used : (page : ℕ) → there page ≡ true → NonePut (contents_of blocks) (256 * page) (256 * page + 256) → ⊥
