-- The words after a program's name. All of it is this profile's own.
use Rattle.std.specs.Prelude.{ℕ, Bool, true, false, not, ◌==◌, List, [], ◌∷◌}

-- whether a word is an operand and no option: it doesn't begin with a minus sign
abbrev pub is_operand : List ℕ → Bool
is_operand [] = true
is_operand (first ∷ word) = not (first == 45)

-- an option's word, where the option is given
abbrev pub option_word : Bool → List ℕ → List (List ℕ)
option_word true word = word ∷ []
option_word false word = []
