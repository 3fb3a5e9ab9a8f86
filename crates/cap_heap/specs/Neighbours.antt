-- The neighbours of a number among the keys of a map (this profile's own).
use Rattle.std.specs.Prelude.{◌≡◌, ℕ, ◌<◌, ◌≤◌, Option, Some, None}

-- the entry with the last key below a number
abbrev pub IsLastBelow : (ℕ → Option ℕ) → ℕ → Option (ℕ × ℕ) → Type 0
IsLastBelow at number None = (key : ℕ) → key < number → at key ≡ None
IsLastBelow at number (Some entry) = (entry.0 < number) × (at entry.0 ≡ Some entry.1)
    × ((key value : ℕ) → key < number → at key ≡ Some value → key ≤ entry.0)

-- the entry with the first key from a number on
abbrev pub IsFirstFrom : (ℕ → Option ℕ) → ℕ → Option (ℕ × ℕ) → Type 0
IsFirstFrom at number None = (key : ℕ) → number ≤ key → at key ≡ None
IsFirstFrom at number (Some entry) = (number ≤ entry.0) × (at entry.0 ≡ Some entry.1)
    × ((key value : ℕ) → number ≤ key → at key ≡ Some value → entry.0 ≤ key)
