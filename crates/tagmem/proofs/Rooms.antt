-- Why there is room for each block that isn't there in a page that is.
use Rattle.std.specs.{List.{Contains, IsDistinct, range_with_len}}
use Rattle.std.proofs.Common.{◌≡◌, ◌≢◌, ℕ, zero, suc, ◌*◌, ◌/◌, ◌%◌, ◌<◌, ◌≤◌, Bool, true, eqb, List, [], ◌∷◌, ◌++◌}
use Rattle.std.proofs.{Common.{All, length, refl, sym, ◌∙◌, arith, length-append}, lemmas.Cmp.nat_eq_equiv}
use Rattle.std.proofs.lemmas.{Bool.{Decides.{Decides-eqb}}, List.length-map}
use Rattle.std.proofs.lemmas.List.{Elements.{All-cons, All-contains, All-from_get_or, Contains-append_left, Contains-append_right}, Kept.AllPairs-cons}
use Rattle.std.proofs.lemmas.List.FromFn.{length-range_with_len, get_or-range_with_len}
use Rattle.std.proofs.lemmas.Map.Made.{length-le_from_is_member, is_member-Decides, IsDistinct-from_AllPairs}
use Rattle.tagmem.specs.declared.block.Block.{Block}
use Rattle.tagmem.specs.{Blocks.{numbers_of, AreDistinct, IsAbsent}, Pages.AreCounted}

-- the numbers of the blocks of pages
abbrev numbers_in : List ℕ → List ℕ
numbers_in [] = []
numbers_in (page ∷ pages) = range_with_len (32 * page) 32 ++ numbers_in pages

length-numbers_in : (pages : List ℕ) → length (numbers_in pages) ≡ 32 * length pages
length-numbers_in [] = refl
length-numbers_in (page ∷ pages) =
    omega (arith, length-append (range_with_len (32 * page) 32) (numbers_in pages), length-range_with_len (32 * page) 32, length-numbers_in pages)

in_page : (pages : List ℕ) (number : ℕ) → Contains pages (number / 32) → Contains (numbers_in pages) number
in_page [] number (k, lt, is) = absurd (omega arith)
in_page (page ∷ pages) number (zero, lt, is) =
    Contains-append_left (range_with_len (32 * page) 32) (numbers_in pages) number (
      number % 32,
      omega (arith, length-range_with_len (32 * page) 32),
      get_or-range_with_len (32 * page) 32 (number % 32) number (omega arith) ∙ omega (arith, is),
    )
in_page (page ∷ pages) number (suc k, lt, is) =
    Contains-append_right (range_with_len (32 * page) 32) (numbers_in pages) number (in_page pages number (k, omega arith, is))

-- pages have places for more blocks than there are, where one of theirs is absent
pub is_room : (blocks : List Block) (there : ℕ → Bool) (count : ℕ) → AreCounted there count → AreDistinct (numbers_of blocks)
    → All (λ number. there (number / 32) ≡ true) (numbers_of blocks)
    → (number : ℕ) → there (number / 32) ≡ true → IsAbsent blocks number → length blocks < 32 * count
is_room blocks there count counted known has number is absent =
    let full : 32 * count ≤ length blocks → ⊥ = λ many. counted (λ pages all each.
    let le = length-le_from_is_member nat_eq_equiv numbers (numbers_in pages) distinct (λ q member.
    (is_member-Decides Decides-eqb (numbers_in pages) q).1 (in_page pages q (each (q / 32)
    (All-contains (λ n. there (n / 32) ≡ true) numbers q (All-cons (λ n. there (n / 32) ≡ true) number (numbers_of blocks) is has)
    ((is_member-Decides Decides-eqb numbers q).0 member))))) in
    omega (arith, le, long, length-numbers_in pages, all, many)) in
    grind (arith, full)
  where
    numbers : List ℕ
    numbers = number ∷ numbers_of blocks

    long : length (numbers_of blocks) ≡ length blocks
    long = length-map blocks (λ (block : Block). block.number)

    distinct : IsDistinct eqb numbers
    distinct = IsDistinct-from_AllPairs Decides-eqb numbers
        (AllPairs-cons (λ (a b : ℕ). a ≢ b) number (numbers_of blocks)
        (All-from_get_or (λ (other : ℕ). number ≢ other) (numbers_of blocks) 0 (λ index lt same.
        absent index (omega (arith, long)) (sym same))) known)
