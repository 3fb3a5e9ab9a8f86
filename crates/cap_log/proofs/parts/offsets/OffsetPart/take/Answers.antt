use Rattle.std.specs.Fmt.{signed_decimal}
use Rattle.std.proofs.Common.{◌≡◌, ◌∙◌, ℕ, zero, suc, ◌-◌, ◌<◌, ◌≤◌, ℤ, negsuc, List, ◌∷◌, ◌++◌, ap, arith, decimal, rules}
use Rattle.std.proofs.lemmas.Int.{ints}
use Rattle.cap_log.specs.Ranges.{IsOffset}
use Rattle.cap_log.proofs.OffsetLemmas.{no_negative}
use Rattle.cap_log.proofs.parts.offsets.OffsetPart.take.Goals as goal

pub returns-in_err-number-clause-none : goal.returns-in_err-number-clause-none
returns-in_err-number-clause-none c = rw c.from_residual-in_err-number.ensures (λ a rest begins.
    no_negative c.args.end c.in_ok-first.digits.now
    (λ n rest' small digits range. c.in_err-number.ensures.none n rest' ((range.0, omega (arith, range.1)), digits))
    a rest begins.0 (search rules ∙ begins.1))

-- a minus sign, and a number's digits behind it
negative : (end n : ℕ) (z : ℤ) (digits rest : List ℕ) → (1 ≤ n) × (n < 2049) → z ≡ negsuc (n - 1) → digits ≡ decimal n ++ end ∷ rest
    → IsOffset z × (45 ∷ digits ≡ signed_decimal z ++ end ∷ rest)
negative end zero z digits rest range is spelled = absurd (omega (arith, range.0))
negative end (suc n) z digits rest range is spelled =
    let less : suc n - 1 ≡ n = omega arith in
    rw (is, less) ((omega (arith, ints, range.1), omega (arith, ints)), ap (λ (bs : List ℕ). 45 ∷ bs) spelled)

pub returns-then-first-eq45-clause-some : goal.returns-then-first-eq45-clause-some
returns-then-first-eq45-clause-some c =
    let found = c.in_ok-number.ensures.some in
    let is : c.args.bytes.now ≡ 45 ∷ c.in_ok-first.digits.now = search rules in
    let spelled = negative c.args.end c.in_ok-number.number _ c.in_ok-first.digits.now c.in_ok-number.rest.now found.0
    (omega (arith, ints, found.0)) found.1 in
    (spelled.0, is ∙ spelled.1)
