-- The digits of small numbers.
use Rattle.std.proofs.Common.{◌≡◌, ℕ, ◌+◌, ◌/◌, ◌%◌, ◌≤◌, ◌<◌, ◌∙◌, List, [], ◌∷◌, ◌++◌, ap, arith, decimal, subst, sym}
use Rattle.std.proofs.lemmas.Fmt.{decimal_digit, decimal_step}
use Rattle.cap_streams.specs.Written.{Writes}

-- one of two digits
pub two_digits : (n : ℕ) → 10 ≤ n → n < 100 → decimal n ≡ (48 + n / 10) ∷ (48 + n % 10) ∷ []
two_digits n least below = decimal_step n least (omega arith)
    ∙ ap (λ (ds : List ℕ). ds ++ (48 + n % 10) ∷ []) (decimal_digit (n / 10) (omega arith))

pub wrote : (at end : ℕ) (text digits old new : List ℕ) → digits ≡ text → Writes at text old new end → Writes at digits old new end
wrote at end text digits old new is written = subst (λ (bs : List ℕ). Writes at bs old new end) (sym is) written
