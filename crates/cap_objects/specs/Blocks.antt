-- Entries in the order of their keys, in blocks (this profile's own).
use Rattle.std.specs.Prelude.{◌≡◌, ℕ, ◌<◌, ◌≤◌, ◌==◌, if◌then◌else◌, List, [], ◌∷◌, Option, Some, None}
use Rattle.std.specs.Coded.{×_prop, Unit-prop, le_prop}
use Rattle.cap_objects.specs.declared.{entries.Entry.Entry, entries.Block.Block}

-- a fact holds of each element
abbrev pub Each : {A : Type 0} → (A → Type 0) → List A → Type 0
Each holds [] = Unit {0}
Each holds (x ∷ xs) = holds x × Each holds xs

-- the slot of the first entry with a key
abbrev pub find : ℕ → List Entry → Option ℕ
find key [] = None
find key (entry ∷ entries) = if key == entry.key then Some entry.slot else find key entries

-- the first of two slots, or else the second
abbrev pub or_second : Option ℕ → Option ℕ → Option ℕ
or_second None second = second
or_second (Some slot) second = Some slot

-- the same among blocks
abbrev pub find_in : ℕ → List Block → Option ℕ
find_in key [] = None
find_in key (block ∷ blocks) = or_second (find key block.entries.items) (find_in key blocks)

-- keys lie below a number
abbrev pub AreUnder : ℕ → List Entry → Type 0
AreUnder number entries = Each (λ entry. entry.key < number) entries

-- keys lie from a number on
abbrev pub AreFrom : ℕ → List Entry → Type 0
AreFrom number entries = Each (λ entry. number ≤ entry.key) entries

-- each key is below the later ones
abbrev pub AreSorted : List Entry → Type 0
AreSorted [] = Unit {0}
AreSorted (entry ∷ entries) = Each (λ other. entry.key < other.key) entries × AreSorted entries

-- a block's keys lie below the first one of another
abbrev pub Precedes : Block → Block → Type 0
Precedes block other = (block.first ≤ other.first) × AreUnder other.first block.entries.items

-- each block's entries are sorted, and their keys lie from its first one on and below those of later blocks
abbrev pub AreBlocks : List Block → Type 0
AreBlocks [] = Unit {0}
AreBlocks (block ∷ blocks) =
    AreSorted block.entries.items × AreFrom block.first block.entries.items × Each (Precedes block) blocks × AreBlocks blocks

-- entries after one key got a slot
pub record Puts (old : List Entry) (key slot : ℕ) (new : List Entry) : Type 0 where
  pub sorted : AreSorted new
  pub found : (k : ℕ) → find k new ≡ (if k == key then Some slot else find k old)
  pub under : (number : ℕ) → key < number → AreUnder number old → AreUnder number new
  pub from : (number : ℕ) → number ≤ key → AreFrom number old → AreFrom number new

-- entries without one key
pub record Takes (old : List Entry) (key : ℕ) (new : List Entry) : Type 0 where
  pub sorted : AreSorted new
  pub found : (k : ℕ) → find k new ≡ (if k == key then None else find k old)
  pub under : (number : ℕ) → AreUnder number old → AreUnder number new
  pub from : (number : ℕ) → AreFrom number old → AreFrom number new

-- each of these facts has one proof at most
Each-prop : {A : Type 0} (P : A → Type 0) → ((x : A) → IsProp (P x)) → (xs : List A) → IsProp (Each P xs)
Each-prop P one [] = Unit-prop
Each-prop P one (x ∷ xs) = ×_prop (one x) (Each-prop P one xs)

AreSorted-prop : (entries : List Entry) → IsProp (AreSorted entries)
AreSorted-prop [] = Unit-prop
AreSorted-prop (entry ∷ entries) = ×_prop (Each-prop (λ other. entry.key < other.key) (λ other. le_prop) entries) (AreSorted-prop entries)

pub AreBlocks-prop : (blocks : List Block) → IsProp (AreBlocks blocks)
AreBlocks-prop [] = Unit-prop
AreBlocks-prop (block ∷ blocks) =
    let sorted = AreSorted-prop block.entries.items in
    let from = Each-prop (λ entry. block.first ≤ entry.key) (λ entry. le_prop) block.entries.items in
    let precedes = Each-prop (Precedes block) (λ other. ×_prop le_prop (Each-prop (λ entry. entry.key < other.first) (λ entry. le_prop) block.entries.items)) blocks in
    hlevel (sorted, from, precedes, AreBlocks-prop blocks)
