-- Indexes of present objects, and neighbours among their keys (this profile's own).
use Rattle.std.specs.Prelude.{◌≡◌, ℕ, ◌≤◌, Bool, if◌then◌else◌, List, slice_get, Option, Some, None, option_and_then}
use Rattle.cap_objects.specs.{declared.objects.Object.Object, Counts.is_owner, Extents.{Objects, is_compared, is_present}}

-- the object in a slot, if it is present
abbrev pub kept : Object → Option Object
kept object = if is_present object then Some object else None

abbrev pub object_at : List Object → ℕ → Option Object
object_at objects slot = option_and_then kept (slice_get objects slot)

-- an index gives just the slots of the objects that have a key
pub record IsIndex (key : Object → Option ℕ) (objects : Objects) (index : ℕ → Option ℕ) : Type 0 where
  pub listed : (slot k : ℕ) → option_and_then key (objects slot) ≡ Some k → index k ≡ Some slot
  pub only : (k slot : ℕ) → index k ≡ Some slot → option_and_then key (objects slot) ≡ Some k

-- an object's number
abbrev pub number_key : Object → Option ℕ
number_key object = Some object.number

-- its base, if new extents are compared with its own
abbrev pub base_key : Bool → Object → Option ℕ
base_key keeps object = if is_compared keeps object then Some object.base else None

-- an index after the key of the object in a slot changed
abbrev pub Rekeys : (ℕ → Option ℕ) → ℕ → Option ℕ → Option ℕ → (ℕ → Option ℕ) → Type 0
Rekeys old slot was now new =
    (k : ℕ) → new k ≡ (if is_owner k now then Some slot else (if is_owner k was then None else old k))

-- an index without a key
abbrev pub Drops : (ℕ → Option ℕ) → Option ℕ → (ℕ → Option ℕ) → Type 0
Drops old key new = (k : ℕ) → new k ≡ (if is_owner k key then None else old k)

-- the entry with the last key at or below a number
abbrev pub IsLastAtOrBelow : (ℕ → Option ℕ) → ℕ → Option (ℕ × ℕ) → Type 0
IsLastAtOrBelow at number None = (key : ℕ) → key ≤ number → at key ≡ None
IsLastAtOrBelow at number (Some entry) = (entry.0 ≤ number) × (at entry.0 ≡ Some entry.1)
    × ((key value : ℕ) → key ≤ number → at key ≡ Some value → key ≤ entry.0)

-- the entry with the first key from a number on
abbrev pub IsFirstFrom : (ℕ → Option ℕ) → ℕ → Option (ℕ × ℕ) → Type 0
IsFirstFrom at from None = (key value : ℕ) → from ≤ key → at key ≡ Some value → ⊥
IsFirstFrom at from (Some entry) = (from ≤ entry.0) × (at entry.0 ≡ Some entry.1)
    × ((key value : ℕ) → from ≤ key → at key ≡ Some value → entry.0 ≤ key)

-- the entry with the first key from a number to another
abbrev pub IsFirstWithin : (ℕ → Option ℕ) → ℕ → ℕ → Option (ℕ × ℕ) → Type 0
IsFirstWithin at from last None = (key value : ℕ) → from ≤ key → key ≤ last → at key ≡ Some value → ⊥
IsFirstWithin at from last (Some entry) = (from ≤ entry.0) × (entry.0 ≤ last) × (at entry.0 ≡ Some entry.1)
    × ((key value : ℕ) → from ≤ key → at key ≡ Some value → entry.0 ≤ key)
