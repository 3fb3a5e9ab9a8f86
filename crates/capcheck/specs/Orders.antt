-- What the words after the program's name ask for.
use Rattle.std.specs.Prelude.{◌≡◌, ℕ, List, [], ◌∷◌, ◌++◌, codes, IsTrue, Some, None}
use Rattle.cap_program.specs.Words.{is_operand, option_word}
use Rattle.capcheck.specs.declared.words.Order.{Order, TheVariants.{Explain, Round, Judge, Vectors}}

-- the words ask for this order (this profile's own)
abbrev pub Asks : List (List ℕ) → Order → Type 0
Asks words (Explain memory tag hex) =
    (words ≡ codes "explain" ∷ (option_word memory (codes "--memory") ++ option_word tag (codes "--tag") ++ hex.now ∷ []))
    × IsTrue (is_operand hex.now)
Asks words (Round base length) =
    (words ≡ codes "round" ∷ base.now ∷ length.now ∷ []) × IsTrue (is_operand base.now) × IsTrue (is_operand length.now)
Asks words (Judge origins None) = words ≡ codes "judge" ∷ option_word origins (codes "--origins")
Asks words (Judge origins (Some file)) =
    (words ≡ codes "judge" ∷ (option_word origins (codes "--origins") ++ file.now ∷ [])) × IsTrue (is_operand file.now)
Asks words (Vectors file) = (words ≡ codes "vectors" ∷ file.now ∷ []) × IsTrue (is_operand file.now)
