-- How `Trees` lead to blocks. All of it is this profile's own.
use Rattle.std.specs.Prelude.{◌≡◌, ◌≢◌, ℕ, zero, suc, ◌+◌, ◌*◌, ◌/◌, ◌%◌, ◌^◌, ◌<◌, ◌≤◌, List, length, slice_index, bit_and}
use Rattle.std.specs.Fn.{iterate}

-- the place of a number: bits from the middle of its product by a number chosen for that, as many as the mask has
abbrev pub place_of : ℕ → ℕ → ℕ
place_of mask number = bit_and (number * 13000019412489880913 % 2 ^ 64 / 2 ^ 32) mask

-- the child of a block on a side, both as links: one more than an index, and 0 for none
abbrev pub child_of : List ℕ → ℕ → ℕ → ℕ
child_of links zero side = 0
child_of links (suc index) side = slice_index links (2 * index + side)

-- a step of a way: what is left of a number's bits, and the child that the next bit names
abbrev pub step : List ℕ → ℕ × ℕ → ℕ × ℕ
step links at = (at.0 / 2, child_of links at.1 (at.0 % 2))

-- where so many steps lead from a link
abbrev pub way : List ℕ → ℕ → ℕ → ℕ → ℕ × ℕ
way links number link steps = iterate (step links) steps (number, link)

-- the way of a number from a link leads to another, by some number of steps
abbrev pub LeadsTo : List ℕ → ℕ → ℕ → ℕ → Type 0
LeadsTo links number link other = ((steps : ℕ) → (way links number link steps).1 ≢ other) → ⊥

-- the links are there, and maybe more
abbrev pub AreKept : List ℕ → List ℕ → Type 0
AreKept links more = (place : ℕ) → slice_index links place ≢ 0 → slice_index more place ≡ slice_index links place

-- the way of a number from a link ends after a block, where that has no child on a side: with a child there it comes to that
pub record IsEnding (links : List ℕ) (number link index side : ℕ) : Type 0 where
  pub in_range : 2 * index + side < length links
  pub within : (limit : ℕ) → link ≤ limit → ((place : ℕ) → slice_index links place ≤ limit) → suc index ≤ limit
  pub small : side < 2
  pub none : slice_index links (2 * index + side) ≡ 0
  pub goes_on : (more : List ℕ) (to : ℕ) → AreKept links more → slice_index more (2 * index + side) ≡ suc to
      → LeadsTo more number link (suc to)

-- children stand after their parents, and below a limit
pub record AreForward (links : List ℕ) (limit : ℕ) : Type 0 where
  pub after : (place : ℕ) → slice_index links place ≢ 0 → place / 2 + 1 < slice_index links place
  pub within : (place : ℕ) → slice_index links place ≤ limit

-- to each of the first blocks, as many as a limit says, the way of its number leads from the root of its place
pub record AreTrees (numbers : List ℕ) (mask limit : ℕ) (roots links : List ℕ) : Type 0 where
  pub forward : AreForward links limit
  pub rooted : (place : ℕ) → slice_index roots place ≤ limit
  pub leads : (index : ℕ) → index < limit
      → LeadsTo links (slice_index numbers index) (slice_index roots (place_of mask (slice_index numbers index))) (suc index)
