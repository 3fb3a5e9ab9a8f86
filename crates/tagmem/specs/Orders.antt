-- How regions lead to one another by the digits of their numbers in base 4. All of it is this profile's own.
use Rattle.std.specs.Prelude.{◌≡◌, ◌≢◌, ℕ, zero, suc, ◌+◌, ◌*◌, ◌/◌, ◌%◌, ◌^◌, ◌<◌, ◌≤◌, Bool, true, false, ◌||◌, cond, eqb, ltb}
use Rattle.std.specs.Prelude.{⊤, List, [], length, Option, None, Some, Result, Ok, Err, slice_index, slice_index_or}
use Rattle.tagmem.specs.declared.order.TheConstants.{SLOTS}

-- what a number has above so many digits
abbrev pub above : ℕ → ℕ → ℕ
above digits number = number / 2 ^ (2 * digits)

-- the slot of a number's root: the number if it has 15 bits, or its highest bits, 14 of 20, 28 or 40 or 13 of 51,
-- after the slots of shorter numbers
abbrev pub slot_of : ℕ → ℕ
slot_of number =
    cond (ltb number 32768) number
    (cond (ltb number 1048576) (32768 + number / 64)
    (cond (ltb number 268435456) (49152 + number / 16384)
    (cond (ltb number 1099511627776) (65536 + number / 67108864) (81920 + number / 274877906944))))

-- how many digits are left after those bits
abbrev pub digits_in : ℕ → ℕ
digits_in slot = cond (ltb slot 32768) 0 (cond (ltb slot 49152) 3 (cond (ltb slot 65536) 7 (cond (ltb slot 81920) 13 19)))

-- what a slot's numbers have above those digits
abbrev pub prefix_in : ℕ → ℕ
prefix_in slot = cond (ltb slot 32768) slot (slot % 16384)

-- a link is one more than the index of a region, and 0 for none. From 0 go the roots, each on its slot, and from another
-- link those of its region, each on its digit
abbrev pub linked : List ℕ → List (List ℕ) → ℕ → ℕ → ℕ
linked roots children zero slot = slice_index roots slot
linked roots children (suc index) digit = slice_index (slice_index_or children index []) digit

-- the way of a number's last digits from a link comes to the region at an index
abbrev pub leads : (ℕ → ℕ → ℕ) → ℕ → ℕ → ℕ → ℕ → Bool
leads links number digits zero at = false
leads links number zero (suc index) at = eqb index at
leads links number (suc digits) (suc index) at = eqb index at || leads links number digits (links (suc index) (above digits number % 4)) at

-- the whole way does
abbrev pub leads_all : (ℕ → ℕ → ℕ) → ℕ → ℕ → Bool
leads_all links number at = leads links number (digits_in (slot_of number)) (links 0 (slot_of number)) at

-- what is linked from a link on a digit has so many digits left, and this above them: a root what its slot says, and a
-- child one digit less than its parent, and the digit after what that has
abbrev pub IsPlaced : List ℕ → (ℕ → ℕ) → ℕ → ℕ → ℕ → ℕ → Type 0
IsPlaced numbers level_of zero slot level prefix = (level ≡ digits_in slot) × (prefix ≡ prefix_in slot)
IsPlaced numbers level_of (suc index) digit level prefix =
    (level_of index ≡ suc level) × (prefix ≡ 4 * above (suc level) (slice_index numbers index) + digit)

-- at each region so many digits are left
abbrev pub HaveLevels : List ℕ → (ℕ → ℕ → ℕ) → (ℕ → ℕ) → Type 0
HaveLevels numbers links level_of = (link digit index : ℕ) → links link digit ≡ suc index
    → IsPlaced numbers level_of link digit (level_of index) (above (level_of index) (slice_index numbers index))

-- links lead to regions, and the way of each region's number to it; and some number of digits is left at each
pub record AreLinked (numbers : List ℕ) (links : ℕ → ℕ → ℕ) : Type 0 where
  pub within : (link digit : ℕ) → links link digit ≤ length numbers
  pub past : (link digit : ℕ) → length numbers < link → links link digit ≡ 0
  pub led : (at : ℕ) → at < length numbers → leads_all links (slice_index numbers at) at ≡ true
  pub levelled : ((level_of : ℕ → ℕ) → HaveLevels numbers links level_of → ⊥) → ⊥

-- the links are there, and maybe more
abbrev pub AreKept : (ℕ → ℕ → ℕ) → (ℕ → ℕ → ℕ) → Type 0
AreKept links more = (link digit : ℕ) → links link digit ≢ 0 → more link digit ≡ links link digit

-- a number is no region's, and its way ends where a link has nothing on a digit: with a link more there it comes to that
pub record IsEnding (numbers : List ℕ) (links : ℕ → ℕ → ℕ) (number link digit : ℕ) : Type 0 where
  pub absent : (at : ℕ) → at < length numbers → slice_index numbers at ≢ number
  pub in_range : link ≤ length numbers
  pub slot : link ≡ 0 → digit < SLOTS
  pub child : 0 < link → digit < 4
  pub none : links link digit ≡ 0
  pub goes_on : (more : ℕ → ℕ → ℕ) (at : ℕ) → AreKept links more → more link digit ≡ suc at → leads_all more number at ≡ true
  pub placed : (level_of : ℕ → ℕ) → HaveLevels numbers links level_of → (level : ℕ) × IsPlaced numbers level_of link digit level (above level number)

-- a number stands at an index, or its way ends
abbrev pub IsStanding : List ℕ → (ℕ → ℕ → ℕ) → ℕ → Result ℕ (ℕ × ℕ) → Type 0
IsStanding numbers links number (Ok at) = (at < length numbers) × (slice_index numbers at ≡ number)
IsStanding numbers links number (Err end) = IsEnding numbers links number end.0 end.1

-- there is a link more, and else the same
pub record IsLinkedTo (old new : ℕ → ℕ → ℕ) (link digit to : ℕ) : Type 0 where
  pub own : new link digit ≡ to
  pub others : (l d : ℕ) → (l ≡ link → d ≢ digit) → new l d ≡ old l d

-- what is there is one of some numbers, and not less than another
abbrev pub IsOneFrom : List ℕ → ℕ → Option ℕ → Type 0
IsOneFrom numbers from None = ⊤
IsOneFrom numbers from (Some one) = (from ≤ one) × (at : ℕ) × (at < length numbers) × (slice_index numbers at ≡ one)

-- there is one, and it is not above a number
abbrev pub IsUpTo : ℕ → Option ℕ → Type 0
IsUpTo number None = ⊥
IsUpTo number (Some one) = one ≤ number

-- the region at an index has a number from one on, with a prefix, and a link leads to it on so many digits
pub record IsUnder (numbers : List ℕ) (links : ℕ → ℕ → ℕ) (from digits link prefix at : ℕ) : Type 0 where
  pub in_range : at < length numbers
  pub low : from ≤ slice_index numbers at
  pub has : above digits (slice_index numbers at) ≡ prefix
  pub led : leads links (slice_index numbers at) digits link at ≡ true

-- the least number of those
abbrev pub IsLeastUnder : List ℕ → (ℕ → ℕ → ℕ) → ℕ → ℕ → ℕ → ℕ → Option ℕ → Type 0
IsLeastUnder numbers links from digits link prefix least = IsOneFrom numbers from least
    × ((at : ℕ) → IsUnder numbers links from digits link prefix at → IsUpTo (slice_index numbers at) least)

-- the least number from one on
abbrev pub IsLeastFrom : List ℕ → ℕ → Option ℕ → Type 0
IsLeastFrom numbers from least = IsOneFrom numbers from least
    × ((at : ℕ) → at < length numbers → from ≤ slice_index numbers at → IsUpTo (slice_index numbers at) least)
