-- What is found in regions, and what becomes of it as they change and are added.
use Rattle.std.specs.{List.{list_any}}
use Rattle.std.proofs.Common.{◌≡◌, ◌≢◌, ℕ, zero, suc, ◌+◌, ◌*◌, ◌/◌, ◌%◌, ◌^◌, ◌<◌, ◌≤◌, Bool, true, false, List, [], ◌∷◌}
use Rattle.std.proofs.Common.{◌++◌, length, get_or, set, Option, Some, None, sym, refl, ap, ◌∙◌, arith, length-set, IfSome, MatchOption}
use Rattle.std.proofs.Common.{get_or-set_same}
use Rattle.std.proofs.lemmas.{Bool.{Decides.nat_tests}, List.{get_or-map, get_or_default, length-map}}
use Rattle.std.proofs.lemmas.{List.Folds.{list_any_at, list_any_none, list_any-append}, Nat.Bits.bit_at_above}
use Rattle.tagmem.specs.{declared.region.Region.Region, Blocks.AreDistinct, Regions.{numbers_of, has_number, is_there}}
use Rattle.tagmem.specs.{Orders.{IsLeastFrom, IsOneFrom, IsUpTo}, Pages.{has_page, HasPage, IsLeast, IsWith, AreCounted}}
use Rattle.tagmem.proofs.Blocks.{by_equal, one_number}

abbrev number_of : Region → ℕ
number_of region = region.number

pub numbers_small : (regions : List Region) (at : ℕ) → at < length (numbers_of regions) → get_or (numbers_of regions) at 0 < 2 ^ 50
numbers_small [] at lt = absurd (omega arith)
numbers_small (region ∷ regions) zero lt = region.in_memory
numbers_small (region ∷ regions) (suc at) lt = numbers_small regions at (omega arith)

-- and so is one of them
pub one_small : (regions : List Region) (from : ℕ) (o : Option ℕ) → IsOneFrom (numbers_of regions) from o → IfSome o (λ n. n < 2 ^ 51)
one_small regions from o one = grind (arith, numbers_small regions)

-- a region has 64 pages
pub past : (region : Region) (place : ℕ) → 64 ≤ place → has_page region.there place ≡ false
past region place large = grind (arith, bit_at_above region.there 64 place region.small)

-- one in which a page is found has a page
pub HasPage-with : (bits place : ℕ) → has_page bits place ≡ true → HasPage bits
HasPage-with bits place own none = grind (arith, none place)

-- nothing is there in a region that isn't
pub none_there : (regions : List Region) (page : ℕ)
    → ((at : ℕ) → at < length (numbers_of regions) → get_or (numbers_of regions) at 0 ≢ page / 64) → is_there regions page ≡ false
none_there regions page absent = list_any_none (has_number page) regions (λ at d lt.
    grind (arith, nat_tests, absent at, length-map regions number_of, get_or-map number_of regions at d 0))

-- nor in a region before the least
pub none_before : (regions : List Region) (from : ℕ) (least : Option ℕ) → IsLeastFrom (numbers_of regions) from least
    → (page : ℕ) → from ≤ page / 64 → (IsUpTo (page / 64) least → ⊥) → is_there regions page ≡ false
none_before regions from least is page le before = none_there regions page (λ at lt same. before (grind (arith, is.1 at lt)))

-- where none is found from a page on to the end of its region, the least is that of the least later region, which has one
pub least_later : (regions : List Region) (from region : ℕ) → ((q : ℕ) → from ≤ q → q < 64 * (from / 64) + 64 → is_there regions q ≡ false)
    → IsLeastFrom (numbers_of regions) (from / 64 + 1) (Some region) → (o : Option ℕ)
    → MatchOption o ((q : ℕ) → 64 * region + 0 ≤ q → q < 64 * region + 64 → is_there regions q ≡ false)
    (λ first. IsLeast (is_there regions) (64 * region + 0) (Some first))
    → ((at : ℕ) → at < length (numbers_of regions) → get_or (numbers_of regions) at 0 ≡ region → o ≢ None)
    → IsLeast (is_there regions) from o
least_later regions from region none later None empty some = absurd (some later.0.1 later.0.2 later.0.3 refl)
least_later regions from region none later (Some first) found some = (
  omega (arith, later.0.0, found.0),
  found.1,
  λ q le lt. grind (arith, none q, none_before regions (from / 64 + 1) (Some region) later q, found.2 q),
)

-- what is alike to a test is so in the place of an element
pub list_any-set : {X : Type 0} (test : X → Bool) (xs : List X) (i : ℕ) (new d : X) → test new ≡ test (get_or xs i d)
    → list_any test (set xs i new) ≡ list_any test xs
list_any-set test [] i new d same = refl
list_any-set test (x ∷ xs) zero new d same = grind arith
list_any-set test (x ∷ xs) (suc i) new d same = grind (arith, list_any-set test xs i new d same)

-- a region that stands, by its number
module _ (regions : List Region) (at : ℕ) (region : Region) (number : ℕ) (is : region ≡ get_or regions at region)
    (stands : (at < length (numbers_of regions)) × (get_or (numbers_of regions) at 0 ≡ number)) where
  in_range : at < length regions
  in_range = omega (arith, stands.0, length-map regions number_of)

  pub number_is : region.number ≡ number
  number_is = grind (arith, in_range, get_or-map number_of regions at region 0)

  -- one page more is found in it
  pub IsWith_set : (page : ℕ) (new : Region) → number ≡ page / 64 → new.number ≡ region.number → has_page new.there (page % 64) ≡ true
      → ((place : ℕ) → place ≢ page % 64 → has_page new.there place ≡ has_page region.there place)
      → IsWith (is_there regions) (is_there (set regions at new)) page
  IsWith_set page new own_number same own others = (
    list_any_at (has_number page) (set regions at new) at new (omega (arith, in_range, length-set regions at new))
        (ap (has_number page) (get_or-set_same regions at new new in_range) ∙ grind (arith, nat_tests, own, number_is)),
    λ q differs. list_any-set (has_number q) regions at new region (grind (arith, nat_tests, others (q % 64), number_is)),
  )

  -- each of its pages is there as it says, where no other has its number
  module _ (known : AreDistinct (numbers_of regions)) where
    pub there_own : (page : ℕ) → number ≡ page / 64 → is_there regions page ≡ has_page region.there (page % 64)
    there_own page own = elim (has_page region.there (page % 64))
        as (λ b. has_page region.there (page % 64) ≡ b → is_there regions page ≡ b) [
          | true ↦ λ has. list_any_at (has_number page) regions at region in_range (grind (arith, nat_tests, number_is))
          | false ↦ λ has. list_any_none (has_number page) regions (λ i d lt.
              let read = get_or-map number_of regions i d 0 in
              let only = one_number (numbers_of regions) known i at in
              grind (arith, nat_tests, number_is, get_or_default regions at d region, only, length-map regions number_of, read))
        ] refl

    -- none of them is there from a place on
    pub none_in : (place : ℕ) → IsLeast (has_page region.there) place None
        → (q : ℕ) → 64 * number + place ≤ q → q < 64 * number + 64 → is_there regions q ≡ false
    none_in place none q le below = grind (arith, there_own q, none (q % 64))

    -- or one is the first
    pub least_in : (place first : ℕ) → first < 64 → IsLeast (has_page region.there) place (Some first)
        → IsLeast (is_there regions) (64 * number + place) (Some (64 * number + first))
    least_in place first small found = (
      omega (arith, found.0),
      grind (arith, there_own (64 * number + first)),
      λ q le below. grind (arith, there_own q, found.2 (q % 64)),
    )

-- a region more, in which one page is found
pub IsWith_push : (regions : List Region) (page : ℕ) (region : Region) → region.number ≡ page / 64
    → has_page region.there (page % 64) ≡ true → ((place : ℕ) → place ≢ page % 64 → has_page region.there place ≡ false)
    → IsWith (is_there regions) (is_there (regions ++ region ∷ [])) page
IsWith_push regions page region number own others = (
  list_any-append (has_number page) regions (region ∷ []) ∙ grind (arith, nat_tests, own),
  λ q differs. list_any-append (has_number q) regions (region ∷ []) ∙ grind (arith, nat_tests, others (q % 64)),
)

-- with one page more a list has one number more
pub AreCounted-with : (old new : ℕ → Bool) (page count : ℕ) → IsWith old new page → AreCounted old count → AreCounted new (count + 1)
AreCounted-with old new page count with counted none = counted (λ numbers many each.
    none (page ∷ numbers) (omega (arith, many)) (λ number is. by_equal number page _ (λ same. (0, omega arith, sym same))
    (λ differs. let there = each number (sym (with.1 number differs) ∙ is) in (suc there.0, omega (arith, there.1), there.2))))
