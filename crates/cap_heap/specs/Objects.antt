-- The live objects of an allocator, and the bounds of their capabilities. All of it is this profile's own.
use Rattle.std.specs.Prelude.{◌≡◌, ◌≢◌, ℕ, ◌+◌, ◌^◌, ◌<◌, ◌≤◌, Option, Some, None}
use Rattle.cap_bounds.specs.{declared.decoding.Interval.Interval, Bounds.{IsInside, IsSound, base_of, top_of}}
use Rattle.cap_bounds.specs.Rounding.{rounded_base, rounded_top}

-- the live objects: the length of the one at each address
abbrev pub Objects : Type 0
Objects = ℕ → Option ℕ

-- none
abbrev pub no_objects : Objects
no_objects = λ address. None

-- an object of this length lives at another address, and a byte lies in its bounds and in those of the first one
abbrev pub Shares : (ℕ → ℕ → ℕ) → (ℕ → ℕ → ℕ) → Objects → ℕ → ℕ → ℕ → ℕ → Type 0
Shares base top objects at size other length = (objects other ≡ Some length)
    × (byte : ℕ) × (base at size ≤ byte) × (byte < top at size) × (base other length ≤ byte) × (byte < top other length)

-- the bounds of all objects, by base and top of each, lie inside the heap's, and no byte lies in those of two
pub record AreApart (base top : ℕ → ℕ → ℕ) (heap : Interval) (objects : Objects) : Type 0 where
  pub inside : (at size : ℕ) → objects at ≡ Some size → IsInside (base at size) (top at size) heap.base heap.top
  pub apart : (at other size length : ℕ) → objects at ≡ Some size → at ≢ other → Shares base top objects at size other length → ⊥

-- so do their rounded bounds
abbrev pub IsApart : Interval → Objects → Type 0
IsApart heap objects = AreApart rounded_base rounded_top heap objects

-- to each address a word can be given, such that those of objects are sound, their bounds hold them, and these lie
-- inside the heap's and apart
abbrev pub CanBeGuarded : Interval → Objects → Type 0
CanBeGuarded heap live = (word : ℕ → ℕ) × AreApart (λ at size. base_of (word at)) (λ at size. top_of (word at)) heap live
    × ((at size : ℕ) → live at ≡ Some size → (word at < 2 ^ 128) × IsSound (word at) × IsInside at (at + size) (base_of (word at)) (top_of (word at)))

-- a byte lies in the rounded bounds of an object
abbrev pub Covers : ℕ → ℕ → ℕ → Type 0
Covers at size byte = (rounded_base at size ≤ byte) × (byte < rounded_top at size)

-- no byte lies in the rounded bounds of both of two objects
abbrev pub LieApart : ℕ → ℕ → ℕ → ℕ → Type 0
LieApart at size other length = (byte : ℕ) → Covers at size byte → Covers other length byte → ⊥
