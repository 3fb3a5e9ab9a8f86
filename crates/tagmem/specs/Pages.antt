-- Pages, by the bits of regions and by their numbers. All of it is this profile's own.
use Rattle.std.specs.Prelude.{◌≡◌, ◌≢◌, ℕ, ◌<◌, ◌≤◌, Bool, true, false, ◌==◌, List, length, Option, None, Some}
use Rattle.std.specs.{Int.bit_at, List.Contains}

-- the page at a place in a region is there, by the region's bits
abbrev pub has_page : ℕ → ℕ → Bool
has_page bits place = bit_at bits place == 1

-- some page of a region is there
abbrev pub HasPage : ℕ → Type 0
HasPage bits = ((place : ℕ) → has_page bits place ≡ false) → ⊥

-- the least number from one on that is there, where there is one
abbrev pub IsLeast : (ℕ → Bool) → ℕ → Option ℕ → Type 0
IsLeast there from None = (number : ℕ) → from ≤ number → there number ≡ false
IsLeast there from (Some least) =
    (from ≤ least) × (there least ≡ true) × ((number : ℕ) → from ≤ number → number < least → there number ≡ false)

-- one number more is there
abbrev pub IsWith : (ℕ → Bool) → (ℕ → Bool) → ℕ → Type 0
IsWith old new number = (new number ≡ true) × ((other : ℕ) → other ≢ number → new other ≡ old other)

-- some list has as many numbers as a count says, and among them each that is there
abbrev pub AreCounted : (ℕ → Bool) → ℕ → Type 0
AreCounted there count =
    ((numbers : List ℕ) → length numbers ≡ count → ((number : ℕ) → there number ≡ true → Contains numbers number) → ⊥) → ⊥
