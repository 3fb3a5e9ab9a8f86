-- How many places each object owns (this profile's own).
use Rattle.std.specs.Prelude.{◌≡◌, ℕ, zero, suc, ◌+◌, ◌^◌, Bool, false, ◌==◌, if◌then◌else◌, Option, Some, None}

-- a function with another value at one key
abbrev pub at_key : {A : Type 0} → (ℕ → A) → ℕ → A → ℕ → A
at_key told key value other = if key == other then value else told other

-- the owner of each place, by the place's key
abbrev pub Owners : Type 0
Owners = ℕ → Option ℕ

-- whether an owner is this object
abbrev pub is_owner : ℕ → Option ℕ → Bool
is_owner object None = false
is_owner object (Some other) = object == other

-- one for an owner that is this object
abbrev pub one_for : ℕ → Option ℕ → ℕ
one_for object owner = if is_owner object owner then 1 else 0

-- counts after a place with one owner got another
abbrev pub Moves : (ℕ → ℕ) → Option ℕ → Option ℕ → (ℕ → ℕ) → Type 0
Moves old from to new = (object : ℕ) → new object + one_for object from ≡ old object + one_for object to

-- how many of the keys below a number a fact holds of
unfoldable pub count_below : (ℕ → Bool) → ℕ → ℕ
count_below holds zero = 0
count_below holds (suc key) = count_below holds key + (if holds key then 1 else 0)

-- the keys of places are below this number: those of 2^60 granules and of 64 registers of each of 65,537 harts, one of them
-- the current one
abbrev pub most_places : ℕ
most_places = 2 ^ 60 + 2 ^ 22 + 96

-- how many places an object owns
abbrev pub owned_by : Owners → ℕ → ℕ
owned_by owners object = count_below (λ key. is_owner object (owners key)) most_places

-- each object's count is that of the places that it owns
abbrev pub CountsAre : Owners → (ℕ → ℕ) → Type 0
CountsAre owners counts = (object : ℕ) → counts object ≡ owned_by owners object
