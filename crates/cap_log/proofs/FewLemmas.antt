-- Numbers of up to four decimal digits.
use Rattle.std.proofs.Common.{◌≡◌, ℕ, ◌+◌, ◌/◌, ◌%◌, ◌<◌, ◌≤◌, [], ◌∷◌, refl, arith, decimal}
use Rattle.std.proofs.lemmas.Fmt.{decimal_digit, decimal_step}

pub two : (n : ℕ) → 10 ≤ n → n < 100 → decimal n ≡ (48 + n / 10) ∷ (48 + n % 10) ∷ []
two n least below = rw (decimal_step n least (omega arith), decimal_digit (n / 10) (omega arith)) refl

pub three : (n : ℕ) → 100 ≤ n → n < 1000 → decimal n ≡ (48 + n / 100) ∷ (48 + n / 10 % 10) ∷ (48 + n % 10) ∷ []
three n least below =
    let q : n / 10 / 10 ≡ n / 100 = omega arith in
    rw (decimal_step n (omega arith) (omega arith), two (n / 10) (omega arith) (omega arith), q) refl

pub four : (n : ℕ) → 1000 ≤ n → n < 10000 → decimal n ≡ (48 + n / 1000) ∷ (48 + n / 100 % 10) ∷ (48 + n / 10 % 10) ∷ (48 + n % 10) ∷ []
four n least below =
    let p : n / 10 / 100 ≡ n / 1000 = omega arith in
    let q : n / 10 / 10 ≡ n / 100 = omega arith in
    rw (decimal_step n (omega arith) (omega arith), three (n / 10) (omega arith) (omega arith), p, q) refl
