-- The name of the refusal in the first bytes of what is shown of a no. All of it is this profile's own.
use Rattle.std.specs.Prelude.{ℕ, ◌+◌, Bool, ◌&&◌, ◌||◌, nat_le, if◌then◌else◌, List, [], ◌∷◌, take}

-- whether a byte is a capital, or a letter
abbrev pub is_capital : ℕ → Bool
is_capital byte = nat_le 65 byte && nat_le byte 90

abbrev pub is_letter : ℕ → Bool
is_letter byte = is_capital byte || (nat_le 97 byte && nat_le byte 122)

-- a text from its first capital on
abbrev pub from_capital : List ℕ → List ℕ
from_capital [] = []
from_capital (byte ∷ text) = if is_capital byte then byte ∷ text else from_capital text

-- how many letters a text begins with
abbrev pub letters : List ℕ → ℕ
letters [] = 0
letters (byte ∷ text) = if is_letter byte then 1 + letters text else 0

-- its first word with a capital
abbrev pub name_in : List ℕ → List ℕ
name_in front = take (letters (from_capital front)) (from_capital front)
