-- What blocks have at a granule, and what becomes of it as blocks change and are added.
use Rattle.std.specs.{Cmp.{nat_cmp_total, unsigned_tied}, FinMap.{find, get-from_entries, nat_cmp-IsAntisymmetric, same_map}}
use Rattle.std.specs.{Option.option_or}
use Rattle.std.specs.FinMap as finite
use Rattle.std.proofs.Common.{◌≡◌, ◌≢◌, ℕ, zero, suc, ◌-◌, ◌*◌, ◌/◌, ◌%◌, ◌<◌, ◌≤◌, Bool, cond, eqb, leb, List, [], ◌∷◌}
use Rattle.std.proofs.Common.{◌++◌, length, get_or, set, replicate, Option, Some, None, unwrap_or, sym, refl, ap, ◌∙◌, ⊎_elim, arith, nat_cmp}
use Rattle.std.proofs.Common.{get_or-set_same, get_or-set_other, length-append}
use Rattle.std.proofs.{Math.ListN.get_or-eq_default, Math.Seq.map-set_same, lemmas.{Bool.Decides.{eqb_tells, nat_tests}}}
use Rattle.std.proofs.lemmas.Grind.{get_or_default_zero, get_or_head, get_or_tail}
use Rattle.std.proofs.lemmas.List.{get_or-map, get_or-replicate, length-replicate, length-map, map-append, get_or_push, Quantifiers.all_pairs_push}
use Rattle.tagmem.specs.{declared.block.Block.Block, Blocks.{slots_of, slot_with, slots_with, entries_from, entries_of}}
use Rattle.tagmem.specs.{Blocks.{contents_of, block_number_at, numbers_of, IsBlockAt, IsAbsent, AreDistinct}, Granules.{Entry, blank}}
use Rattle.tagmem.proofs.Granules.{get-put}

-- two numbers are equal, or they differ
pub by_equal : (x y : ℕ) (P : Type 0) → (x ≡ y → P) → (x ≢ y → P) → P
by_equal x y P same other = ⊎_elim (λ is. same is.1) (λ differs. other differs.1) (eqb_tells x y)

-- a list of one thing has it everywhere, where it is the default
pub get_or-same : {X : Type 0} (d : X) (n i : ℕ) → get_or (replicate n d) i d ≡ d
get_or-same d n i = grind (arith, get_or-replicate n i d d, get_or-eq_default (replicate n d) d {n = i}, length-replicate n d)

-- there are as many slots as there are tags
pub length-slots_with : (tags : List (Option Bool)) (rows : List (List ℕ)) (codes : List ℕ) → length tags ≡ length rows
    → length tags ≡ length codes → length (slots_with tags rows codes) ≡ length tags
length-slots_with (tag ∷ tags) (row ∷ rows) (code ∷ codes) same equal =
    ap suc (length-slots_with tags rows codes (omega arith) (omega arith))
length-slots_with tags rows codes same equal = omega arith

-- each is a tag with its bytes and its code
pub get_or-slots_with : (tags : List (Option Bool)) (rows : List (List ℕ)) (codes : List ℕ) (i : ℕ) → length tags ≡ length rows
    → length tags ≡ length codes
    → get_or (slots_with tags rows codes) i None ≡ slot_with (get_or tags i None) (get_or rows i []) (get_or codes i 0)
get_or-slots_with (tag ∷ tags) (row ∷ rows) (code ∷ codes) (suc i) same equal =
    get_or-slots_with tags rows codes i (omega arith) (omega arith)
get_or-slots_with tags rows codes i same equal = grind arith

-- a tag set with its bytes and its code is one of them set
pub slots_with-set : (tags : List (Option Bool)) (rows : List (List ℕ)) (codes : List ℕ) (i : ℕ)
    (tag : Option Bool) (row : List ℕ) (code : ℕ)
    → slots_with (set tags i tag) (set rows i row) (set codes i code) ≡ set (slots_with tags rows codes) i (slot_with tag row code)
slots_with-set (t ∷ tags) (r ∷ rows) (c ∷ codes) (suc i) tag row code =
    ap (λ rest. slot_with t r c ∷ rest) (slots_with-set tags rows codes i tag row code)
slots_with-set tags rows codes i tag row code = grind arith

-- the bytes of a slot, where what was never put has none
pub bytes-slot_with : (tag : Option Bool) (row : List ℕ) (code : ℕ) → (tag ≡ None → row ≡ blank.1)
    → (unwrap_or (slot_with tag row code) blank).1 ≡ row
bytes-slot_with tag row code none = grind arith

-- the number that a block has
abbrev number_of : Block → ℕ
number_of block = block.number

-- where no number stands twice, each has one index at most
pub one_number : (numbers : List ℕ) → AreDistinct numbers → (i j : ℕ) → i < length numbers → j < length numbers
    → get_or numbers i 0 ≡ get_or numbers j 0 → i ≡ j
one_number numbers known i j lt_i lt_j same = grind (arith, known i j 0, known j i 0)

-- a block at the index of another of its number leaves the numbers as they are
pub numbers_of-set : (blocks : List Block) (new : Block) (index : ℕ) → IsBlockAt blocks new.number index
    → numbers_of (set blocks index new) ≡ numbers_of blocks
numbers_of-set blocks new index at =
    map-set_same number_of blocks index new new (sym at.has_number ∙ get_or-map number_of blocks index new 0 at.in_range)

-- a block more, at the index behind the others
module _ (blocks : List Block) (block : Block) (number index : ℕ)
    (its_number : block.number ≡ number) (last : index ≡ length blocks) where
  -- is the last of the numbers
  pub numbers_of-push : numbers_of blocks ++ number ∷ [] ≡ numbers_of (blocks ++ block ∷ [])
  numbers_of-push = grind (arith, map-append number_of blocks (block ∷ []))

  -- is there
  pub IsBlockAt-push : IsBlockAt (blocks ++ block ∷ []) number index
  IsBlockAt-push = record {
    in_range = omega (arith, length-append blocks (block ∷ []), last);
    has_number = grind (arith, numbers_of-push, length-map blocks number_of, get_or_push (numbers_of blocks) number 0 index);
  }

  -- and one more, where it is absent
  pub AreDistinct-push : IsAbsent blocks number → AreDistinct (numbers_of blocks) → AreDistinct (numbers_of (blocks ++ block ∷ []))
  AreDistinct-push absent known = rw (← numbers_of-push) (all_pairs_push (λ (a b : ℕ). a ≢ b) (numbers_of blocks) number known (λ k d lt is.
      grind (arith, absent k, length-map blocks number_of, get_or_default_zero (numbers_of blocks) k d)))

entries_from-none : (g : ℕ) (slots : List (Option Entry)) → ((i : ℕ) → get_or slots i None ≡ None) → entries_from g slots ≡ []
entries_from-none g [] none = refl
entries_from-none g (slot ∷ slots) none = grind (arith, none 0, entries_from-none (suc g) slots (λ i. none (suc i)))

-- a block of which no granule was put adds no entry
pub entries_of-push : (blocks : List Block) (block : Block) → ((i : ℕ) → get_or (slots_of block) i None ≡ None)
    → entries_of (blocks ++ block ∷ []) ≡ entries_of blocks
entries_of-push [] block none = grind (arith, entries_from-none (8 * block.number) (slots_of block) none)
entries_of-push (first ∷ blocks) block none =
    ap (λ es. entries_from (8 * first.number) (slots_of first) ++ es) (entries_of-push blocks block none)

-- a block has eight slots
pub length-slots_of : (block : Block) → length (slots_of block) ≡ 8
length-slots_of block = grind (arith, length-slots_with block.tags block.rows block.codes)

-- a slot of a block is its tag with its bytes and its code
pub slot_of : (block : Block) (slot : ℕ)
    → get_or (slots_of block) slot None ≡ slot_with (get_or block.tags slot None) (get_or block.rows slot []) (get_or block.codes slot 0)
slot_of block slot = grind (arith, get_or-slots_with block.tags block.rows block.codes slot)

-- past the last there is none
pub past_last : (block : Block) (slot : ℕ) → 8 ≤ slot → get_or (slots_of block) slot None ≡ None
past_last block slot large = get_or-eq_default (slots_of block) None (omega (arith, length-slots_of block))

-- what a block says of a granule
abbrev pub in_block : Block → ℕ → Option Entry
in_block block q = cond (eqb block.number (q / 8)) (get_or (slots_of block) (q % 8) None) None

-- what the first block that has a granule says
abbrev pub found : List Block → ℕ → Option Entry
found [] q = None
found (block ∷ blocks) q = option_or (in_block block q) (found blocks q)

find-append : (xs ys : List (ℕ × Entry)) (q : ℕ) → find nat_cmp q (xs ++ ys) ≡ option_or (find nat_cmp q xs) (find nat_cmp q ys)
find-append [] ys q = refl
find-append (x ∷ xs) ys q = grind (arith, find-append xs ys q)

find-entries_from : (g : ℕ) (slots : List (Option Entry)) (q : ℕ)
    → find nat_cmp q (entries_from g slots) ≡ cond (leb g q) (get_or slots (q - g) None) None
find-entries_from g [] q = grind arith
find-entries_from g (slot ∷ slots) q =
    let later = find-entries_from (suc g) slots q in
    grind (arith, nat_tests, unsigned_tied q g, later, get_or_head slot slots (q - g), get_or_tail slot slots (q - g))

find-entries_of : (blocks : List Block) (q : ℕ) → find nat_cmp q (entries_of blocks) ≡ found blocks q
find-entries_of [] q = refl
find-entries_of (block ∷ blocks) q =
    let own = find-entries_from (8 * block.number) (slots_of block) q in
    grind (arith, nat_tests, find-append, own, past_last block (q - 8 * block.number), find-entries_of blocks q)

-- the map has what is found
get-contents_of : (blocks : List Block) (q : ℕ) → finite.get (contents_of blocks) q ≡ found blocks q
get-contents_of blocks q = get-from_entries nat_cmp_total (entries_of blocks) q ∙ find-entries_of blocks q

-- no block before an index has the number
abbrev NoneBefore : List Block → ℕ → ℕ → Type 0
NoneBefore blocks number index = (i : ℕ) → i < index → block_number_at blocks i ≢ number

at_in_tail : (block : Block) (blocks : List Block) (number index : ℕ) → IsBlockAt (block ∷ blocks) number (suc index) → IsBlockAt blocks number index
at_in_tail block blocks number index at = record { in_range = omega (arith, at.in_range); has_number = at.has_number }

-- nothing is found of a granule whose block is absent
found_absent : (blocks : List Block) (q : ℕ) → IsAbsent blocks (q / 8) → found blocks q ≡ None
found_absent [] q absent = refl
found_absent (block ∷ blocks) q absent = grind (arith, nat_tests, absent 0, found_absent blocks q (λ i lt. absent (suc i) (omega arith)))

-- what is found of a granule is what its block says, where no other has its number
found_present : (blocks : List Block) (q index : ℕ) (d : Block) → IsBlockAt blocks (q / 8) index
    → ((i : ℕ) → i < length blocks → block_number_at blocks i ≡ q / 8 → i ≡ index)
    → found blocks q ≡ get_or (slots_of (get_or blocks index d)) (q % 8) None
found_present [] q index d at only = absurd (omega (arith, at.in_range))
found_present (block ∷ blocks) q zero d at only = grind (arith, nat_tests, found_absent blocks q, at.has_number, λ (i : ℕ). only (suc i))
found_present (block ∷ blocks) q (suc index) d at only =
    let later = found_present blocks q index d (at_in_tail block blocks _ _ at) (λ i lt is. omega (arith, only (suc i) (omega arith) is)) in
    grind (arith, nat_tests, only 0, later)

-- a block that differs from another in one slot says the same of every granule but one
in_block-set : (old new : Block) (g : ℕ) (entry : Entry) → old.number ≡ g / 8 → new.number ≡ g / 8
    → slots_of new ≡ set (slots_of old) (g % 8) (Some entry) → (q : ℕ) → in_block new q ≡ cond (eqb q g) (Some entry) (in_block old q)
in_block-set old new g entry old_is new_is are q =
    let own = get_or-set_same (slots_of old) (g % 8) (Some entry) None in
    let other = get_or-set_other (slots_of old) (g % 8) (q % 8) (Some entry) None in
    grind (arith, nat_tests, length-slots_of old, own, other)

-- the same of blocks, one of which is changed
found-set : (blocks : List Block) (new d : Block) (index g : ℕ) (entry : Entry) → IsBlockAt blocks (g / 8) index
    → NoneBefore blocks (g / 8) index → new.number ≡ g / 8
    → slots_of new ≡ set (slots_of (get_or blocks index d)) (g % 8) (Some entry)
    → (q : ℕ) → found (set blocks index new) q ≡ cond (eqb q g) (Some entry) (found blocks q)
found-set [] new d index g entry at none number are q = absurd (omega (arith, at.in_range))
found-set (block ∷ blocks) new d zero g entry at none number are q =
    grind (arith, nat_tests, in_block-set block new g entry at.has_number number are q)
found-set (block ∷ blocks) new d (suc index) g entry at none number are q =
    let later = found-set blocks new d index g entry (at_in_tail block blocks _ _ at) (λ i lt. none (suc i) (omega arith)) number are q in
    grind (arith, nat_tests, none 0, later)

-- where no number stands twice
module _ (blocks : List Block) (known : AreDistinct (numbers_of blocks)) where
  -- each number has one index at most
  one_index : (number index i : ℕ) → IsBlockAt blocks number index → i < length blocks → block_number_at blocks i ≡ number → i ≡ index
  one_index number index i at lt is =
      grind (arith, at.in_range, at.has_number, length-map blocks number_of, one_number (numbers_of blocks) known i index)

  -- what stands in a granule is what its block says, read there
  pub get_read : (q index : ℕ) (block : Block) → IsBlockAt blocks (q / 8) index → block ≡ get_or blocks index block
      → finite.get (contents_of blocks) q ≡ get_or (slots_of block) (q % 8) None
  get_read q index block at read = grind (arith, get-contents_of blocks q, one_index (q / 8) index, found_present blocks q index block)

  -- a put in its block changes that granule alone
  pub contents_of-set : (new d : Block) (index g : ℕ) (entry : Entry) → IsBlockAt blocks (g / 8) index → new.number ≡ g / 8
      → slots_of new ≡ set (slots_of (get_or blocks index d)) (g % 8) (Some entry)
      → contents_of (set blocks index new) ≡ finite.insert (contents_of blocks) g entry
  contents_of-set new d index g entry at number are = same_map nat_cmp_total nat_cmp-IsAntisymmetric _ _ (λ q.
      let none : NoneBefore blocks (g / 8) index = λ i lt is. grind (arith, at.in_range, one_index (g / 8) index i at) in
      grind (arith, get-contents_of, found-set blocks new d index g entry at none number are q, get-put (contents_of blocks) g entry q))

-- a granule whose block is absent was never put
pub get_absent : (blocks : List Block) (q : ℕ) → IsAbsent blocks (q / 8) → finite.get (contents_of blocks) q ≡ None
get_absent blocks q absent = get-contents_of blocks q ∙ found_absent blocks q absent
