-- Offsets: what the digits with a minus sign before them, or without one, spell.
use Rattle.std.specs.Fmt.{signed_decimal}
use Rattle.std.proofs.Common.{◌≡◌, ℕ, suc, ◌<◌, ◌≤◌, ◌^◌, ℤ, pos, negsuc, List, ◌∷◌, ◌++◌, get_or, drop, sym, ap, ◌∙◌}
use Rattle.std.proofs.{Common.{arith, decimal}, Math.ListN.get_or-append, lemmas.{Fmt.decimal_nonempty, Int.ints}}
use Rattle.cap_log.specs.Lines.{IsOffset}
use Rattle.cap_log.proofs.PartLemmas.{Lacks-decimal}

-- no decimal begins with a minus sign
no_minus : (n : ℕ) (more rest : List ℕ) → n < 2 ^ 64 → 45 ∷ rest ≡ decimal n ++ more → ⊥
no_minus n more rest small e =
    let some = decimal_nonempty n small in
    Lacks-decimal 45 n (omega arith) small 0 0 some (sym (ap (λ (bs : List ℕ). get_or bs 0 0) e ∙ get_or-append (decimal n) more 0 0 some))

-- digits behind a minus sign that spell no number, or one out of range
pub no_negative : (end : ℕ) (digits : List ℕ) → ((n : ℕ) (rest : List ℕ) → n < 2 ^ 32
    → digits ≡ decimal n ++ end ∷ rest → (1 ≤ n) × (n ≤ 2048) → ⊥)
    → (z : ℤ) (rest : List ℕ) → IsOffset z → 45 ∷ digits ≡ signed_decimal z ++ end ∷ rest → ⊥
no_negative end digits none (pos n) rest fits e = no_minus n (end ∷ rest) digits (omega (arith, ints, fits)) e
no_negative end digits none (negsuc n) rest fits e =
    let small : n ≤ 2047 = omega (arith, ints, fits) in
    none (suc n) rest (omega arith) (ap (λ (bs : List ℕ). drop 1 bs) e) (omega arith, omega arith)
