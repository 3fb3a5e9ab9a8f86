-- A write inside a granule, whose block is there or is added.
use Rattle.std.specs.FinMap.{from_entries}
use Rattle.std.specs.FinMap as map
use Rattle.std.proofs.Common.{◌≡◌, ℕ, ◌+◌, ◌*◌, ◌/◌, ◌%◌, ◌^◌, ◌<◌, ◌≤◌, Bool, true, List, [], ◌∷◌, ◌++◌, length, get_or}
use Rattle.std.proofs.Common.{set, All, Some, None, is_none, sym, ap, ◌∙◌, arith}
use Rattle.std.proofs.{Common.{length-append, length-set}, lemmas.{Bool.Decides.nat_tests, List.Elements.All-push}}
use Rattle.std.proofs.lemmas.List.{get_or-map, get_or_push}
use mir.Val.{bool_byte}
use Rattle.tagmem.specs.{declared.block.Block.Block, Blocks.{slots_of, bytes_in_slot, contents_of, numbers_of}}
use Rattle.tagmem.specs.{Blocks.{AreDistinct, ArePaged, IsAbsent, IsBlockAt}, Pages.IsWith}
use Rattle.tagmem.specs.Granules.{entry_at, bytes_at, overwritten, with_write, HasRoom, IsCodeFor, AreStored, NonePut}
use Rattle.tagmem.proofs.Blocks.{by_equal, get_read as get_block, get_absent, contents_of-set, numbers_of-set, numbers_of-push, AreDistinct-push, IsBlockAt-push, entries_of-push}
use Rattle.tagmem.proofs.Granules.{AreStored-put, get-put, len-put, IsStored-overwritten, IsStored-entry_at}

-- a first was read at the index of a granule's block
pub record IsRead (blocks : List Block) (index g : ℕ) (first : Block) : Type 0 where
  pub known : AreDistinct (numbers_of blocks)
  pub found : IsBlockAt blocks (g / 8) index
  pub is : first ≡ get_or blocks index first

-- a block has a write in one slot, and is else the same
pub record IsWritten (old new : Block) (slot : ℕ) (tag : Bool) (byte_index : ℕ) (bytes : List ℕ) (code : ℕ) : Type 0 where
  pub number : new.number ≡ old.number
  pub slots : slots_of new ≡ set (slots_of old) slot (Some (tag, overwritten (bytes_in_slot (slots_of old) slot) byte_index bytes, code))

module _ (blocks : List Block) (index g : ℕ) (first : Block)
    (read : IsRead blocks index g first) where
  -- what stood in the granule
  get_read : map.get (contents_of blocks) g ≡ get_or (slots_of first) (g % 8) None
  get_read = get_block blocks read.known g index first read.found read.is

  number_read : first.number ≡ g / 8
  number_read = grind (arith, read.is, read.found, get_or-map (λ (b : Block). b.number) blocks index first 0)

  -- there is room for one more entry where none stood there
  pub len_fits : map.len (contents_of blocks) < 2 ^ 32 → HasRoom (contents_of blocks) g
      → map.len (contents_of blocks) + bool_byte (is_none (get_or (slots_of first) (g % 8) None)) < 2 ^ 32
  len_fits small room = grind (arith, get_read)

  module _ (block : Block) (tag : Bool) (byte_index : ℕ) (bytes : List ℕ) (code : ℕ)
      (written : IsWritten first block (g % 8) tag byte_index bytes code) where
    pub numbers_of-write : numbers_of (set blocks index block) ≡ numbers_of blocks
    numbers_of-write = numbers_of-set blocks block index (rw (written.number ∙ number_read) read.found)

    -- the map has the write, and is else the same
    pub contents_of-write : contents_of (set blocks index block) ≡ with_write (contents_of blocks) g tag byte_index bytes code
    contents_of-write =
        let was : bytes_in_slot (slots_of first) (g % 8) ≡ bytes_at (contents_of blocks) g = grind (arith, get_read) in
        contents_of-set blocks read.known block first index g _ read.found (written.number ∙ number_read) (rw (← was, ← read.is) written.slots)

    -- and each page that had a granule has one
    pub ArePaged-write : (there : ℕ → Bool) → ArePaged blocks there → ArePaged (set blocks index block) there
    ArePaged-write there paged = record {
      has = rw numbers_of-write paged.has;
      used = λ page is none. paged.used page is (λ q le lt. grind (arith, nat_tests, none q, contents_of-write, get-put (contents_of blocks) g));
    }

    pub AreStored-write : g < 2 ^ 60 → byte_index + length bytes ≤ 16 → All (λ byte. byte < 256) bytes → code < 2 ^ 64 → IsCodeFor tag code
        → AreStored (contents_of blocks)
        → AreStored (contents_of (set blocks index block))
    AreStored-write in_memory inside fits small is_for stored =
        let stood = IsStored-entry_at (contents_of blocks) stored g in_memory in
        rw contents_of-write (AreStored-put (contents_of blocks) g _
        (IsStored-overwritten g (entry_at (contents_of blocks) g) tag byte_index bytes code stood inside fits small is_for) stored)

    pub len-write : map.len (contents_of (set blocks index block))
        ≡ map.len (contents_of blocks) + bool_byte (is_none (get_or (slots_of first) (g % 8) None))
    len-write = grind (arith, contents_of-write, len-put (contents_of blocks) g, get_read)

-- a block of which no granule was put, and which has a write since, stands behind the others
pub record IsAdded (blocks : List Block) (index g : ℕ) (first block : Block)
    (tag : Bool) (byte_index : ℕ) (bytes : List ℕ) (code : ℕ) : Type 0 where
  pub known : AreDistinct (numbers_of blocks)
  pub absent : IsAbsent blocks (g / 8)
  pub number : first.number ≡ g / 8
  pub none : (i : ℕ) → get_or (slots_of first) i None ≡ None
  pub last : index ≡ length blocks
  pub written : IsWritten first block (g % 8) tag byte_index bytes code

-- with one page more the pages of the blocks are there
pub ArePaged-has : (blocks : List Block) (old new : ℕ → Bool) (page : ℕ) → IsWith old new page → ArePaged blocks old
    → All (λ number. new (number / 32) ≡ true) (numbers_of blocks)
ArePaged-has blocks old new page with paged i d lt = grind (arith, with.0, with.1 (get_or (numbers_of blocks) i d / 32), paged.has i d)

module _ (blocks : List Block) (index g : ℕ) (first block : Block) (tag : Bool) (byte_index : ℕ) (bytes : List ℕ) (code : ℕ)
    (added : IsAdded blocks index g first block tag byte_index bytes code) where
  -- with the block as it was first
  read_first : IsRead (blocks ++ first ∷ []) index g first
  read_first = record {
    known = AreDistinct-push blocks first (g / 8) index added.number added.last added.absent added.known;
    found = IsBlockAt-push blocks first (g / 8) index added.number added.last;
    is = sym (get_or_push blocks first first index (sym added.last));
  }

  contents_of-first : contents_of (blocks ++ first ∷ []) ≡ contents_of blocks
  contents_of-first = ap from_entries (entries_of-push blocks first added.none)

  pub numbers_of-add : numbers_of (set (blocks ++ first ∷ []) index block) ≡ numbers_of blocks ++ (g / 8) ∷ []
  numbers_of-add = numbers_of-write (blocks ++ first ∷ []) index g first read_first block tag byte_index bytes code added.written
      ∙ sym (numbers_of-push blocks first (g / 8) index added.number added.last)

  pub length-add : length (set (blocks ++ first ∷ []) index block) ≡ length blocks + 1
  length-add = omega (arith, length-set (blocks ++ first ∷ []) index block, length-append blocks (first ∷ []))

  pub AreDistinct-add : AreDistinct (numbers_of (set (blocks ++ first ∷ []) index block))
  AreDistinct-add =
      rw (numbers_of-write (blocks ++ first ∷ []) index g first read_first block tag byte_index bytes code added.written) read_first.known

  pub contents_of-add : contents_of (set (blocks ++ first ∷ []) index block) ≡ with_write (contents_of blocks) g tag byte_index bytes code
  contents_of-add =
      contents_of-write (blocks ++ first ∷ []) index g first read_first block tag byte_index bytes code added.written
      ∙ ap (λ m. with_write m g tag byte_index bytes code) contents_of-first

  pub ArePaged-add : (old new : ℕ → Bool) → IsWith old new (g / 256) → ArePaged blocks old
      → ArePaged (set (blocks ++ first ∷ []) index block) new
  ArePaged-add old new with paged = record {
    has = rw numbers_of-add (All-push (λ number. new (number / 32) ≡ true) (numbers_of blocks) (g / 8)
        (ArePaged-has blocks old new (g / 256) with paged) (grind (arith, with.0)));
    used = λ page is none.
        let put : NonePut (with_write (contents_of blocks) g tag byte_index bytes code) (256 * page) (256 * page + 256) =
        rw (← contents_of-add) none in
        by_equal page (g / 256) _
        (λ here. grind (arith, nat_tests, put g, get-put (contents_of blocks) g))
        (λ apart. paged.used page (sym (with.1 page apart) ∙ is) (λ q le lt. grind (arith, nat_tests, put q, get-put (contents_of blocks) g)));
  }

  pub AreStored-add : g < 2 ^ 60 → byte_index + length bytes ≤ 16 → All (λ byte. byte < 256) bytes → code < 2 ^ 64 → IsCodeFor tag code
      → AreStored (contents_of blocks) → AreStored (contents_of (set (blocks ++ first ∷ []) index block))
  AreStored-add in_memory inside fits small is_for stored =
      AreStored-write (blocks ++ first ∷ []) index g first read_first block tag byte_index bytes code added.written
      in_memory inside fits small is_for (rw contents_of-first stored)

  pub len-add : map.len (contents_of (set (blocks ++ first ∷ []) index block)) ≡ map.len (contents_of blocks) + 1
  len-add = grind (arith, contents_of-add, len-put (contents_of blocks) g, get_absent blocks g added.absent)
