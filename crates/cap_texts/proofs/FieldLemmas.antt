-- What follows a field of a line.
use Rattle.std.proofs.Common.{◌≡◌, ℕ, ◌*◌, List, ◌∷◌, ◌++◌, drop, Option, sym, ap, ◌∙◌, drop_at, IfNone, Some, None}
use Rattle.cap_word.specs.Digits.{hex_digits}
use Rattle.cap_word.proofs.DigitLemmas.{length-hex_digits}
use Rattle.cap_texts.specs.Fields.{StandsValue, bytes_of_size}

-- what holds where there is none, by what does
pub none_by : {A : Type 0} {P Q : Type 0} (option : Option A) → (P → Q) → IfNone option P → IfNone option Q
none_by None so is = so is
none_by (Some a) so is = tt

-- no value where no byte ends its digits
pub no_value : (size end number : ℕ) (bytes others : List ℕ)
    → bytes ≡ hex_digits (2 * bytes_of_size size) number ++ others → ((rest : List ℕ) → others ≡ end ∷ rest → ⊥)
    → (rest : List ℕ) → StandsValue size end bytes rest → ⊥
no_value size end number bytes others is none rest stands =
    let count = 2 * bytes_of_size size in
    none rest (sym (drop_at (hex_digits count number) others count (length-hex_digits count number))
    ∙ ap (drop count) (sym is ∙ stands.2)
    ∙ drop_at (hex_digits count stands.0) (end ∷ rest) count (length-hex_digits count stands.0))
