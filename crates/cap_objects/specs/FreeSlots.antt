-- The slots without a present object, which are used again (this profile's own).
use Rattle.std.specs.Prelude.{◌≡◌, ◌⊎◌, ◌+◌, ◌<◌, ◌≤◌, ◌-◌, ◌^◌, ℕ, zero, suc, List, length, slice_get, false, Some, IsSome}
use Rattle.cap_objects.specs.{declared.objects.Object.Object, Extents.{Objects, is_present}}

-- so many links lead from one slot to another: each from a slot without a present object to that which it has in place
-- of a number
abbrev pub IsLinked : List Object → ℕ → ℕ → ℕ → Type 0
IsLinked objects zero from to = from ≡ to
IsLinked objects (suc links) from to =
    (object : Object) × (slice_get objects from ≡ Some object) × (is_present object ≡ false) × IsLinked objects links object.number to

-- links lead from a first slot to each without a present object, and slots have numbers of 32 bits
pub record AreFree (objects : List Object) (first : ℕ) : Type 0 where
  pub few : length objects ≤ 2 ^ 32 - 1
  pub linked : (slot : ℕ) (object : Object) → slice_get objects slot ≡ Some object → is_present object ≡ false
      → ∥ ((links : ℕ) × IsLinked objects links first slot) ∥₁

-- there are as many slots as before, or one more, where each of those before had an object
abbrev pub UsesSlots : Objects → ℕ → ℕ → Type 0
UsesSlots objects old new = (new ≡ old) ⊎ ((new ≡ old + 1) × ((slot : ℕ) → slot < old → IsSome (objects slot)))
