-- The front of some bytes: a line that a line feed ends, more than a line may have, or less than a line.
use Rattle.std.specs.Prelude.{◌≡◌, ◌≢◌, ℕ, ◌+◌, ◌<◌, ◌≤◌, ◌⊎◌, List, ◌∷◌, ◌++◌, length, take, drop, All}
use Rattle.cap_streams.specs.declared.lines.Front.{Front, TheVariants.{Line, TooLong, Cut}}

-- no byte is a line feed (this profile's own)
abbrev pub HasNoFeed : List ℕ → Type 0
HasNoFeed bytes = All (λ b. b ≢ 10) bytes

-- the bytes are a line of at most 95 bytes, its line feed, and a rest (this profile's own)
pub record IsLine (bytes line rest : List ℕ) : Type 0 where
  pub whole : bytes ≡ line ++ 10 ∷ rest
  pub one : HasNoFeed line
  pub short : length line ≤ 95

-- the first 96 bytes hold no line feed (this profile's own)
abbrev pub IsTooLong : List ℕ → Type 0
IsTooLong bytes = (96 ≤ length bytes) × HasNoFeed (take 96 bytes)

-- the bytes end before a line does (this profile's own)
abbrev pub IsCut : List ℕ → Type 0
IsCut bytes = (length bytes ≤ 95) × HasNoFeed bytes

-- the first 96 bytes have no line feed, or the bytes end before a line does, or they begin with a line; each with
-- its statement (this profile's own)
abbrev pub FrontIs : List ℕ → Type 0 → Type 0 → (List ℕ → Type 0) → Type 0
FrontIs bytes AtTooLong AtCut AtLine =
    (IsTooLong bytes × AtTooLong)
    ⊎ (IsCut bytes × AtCut)
    ⊎ ((line : List ℕ) × (rest : List ℕ) × IsLine bytes line rest × AtLine line)

-- the text is the line that the bytes begin with, without its line feed: the first 96 bytes if it is too long, and all
-- bytes if it is cut (this profile's own)
abbrev pub IsFrontText : List ℕ → List ℕ → Type 0
IsFrontText bytes text = FrontIs bytes (text ≡ take 96 bytes) (text ≡ bytes) (λ line. text ≡ line)

-- which of the three a front is; a line is named by its length (this profile's own)
abbrev pub IsFront : List ℕ → Front → Type 0
IsFront bytes (Line n) = (n < length bytes) × IsLine bytes (take n bytes) (drop (n + 1) bytes)
IsFront bytes TooLong = IsTooLong bytes
IsFront bytes Cut = IsCut bytes
