use Rattle.std.proofs.Common.{◌≡◌, ◌∷◌, ◌++◌, ℕ, List, drop, get_or, ap, sym, ◌∙◌, arith, codes, rules}
use Rattle.cap_word.specs.Digits.{hex_digits}
use Rattle.cap_log.proofs.Cuts.{stripped}
use Rattle.cap_texts.proofs.TopLemmas.{no_top, seventeen, seventeen-end}
use Rattle.cap_texts.proofs.tops.TopPart.take.Goals as goal

pub returns-in_err-number-clause-none : goal.returns-in_err-number-clause-none
returns-in_err-number-clause-none c =
    let strip = c.in-Some.ensures.cases in
    let whole = stripped 48 c.args.bytes.now c.in-Some.low.now strip.0 strip.1 in
    rw c.from_residual.ensures (no_top c.args.end c.args.bytes.now
    (λ n rest small is. c.in_err-number.ensures.none n rest (small, ap (λ (bs : List ℕ). drop 1 bs) (sym whole ∙ is)))
    (λ rest is. omega (arith, ap (λ (bs : List ℕ). get_or bs 0 0) (sym whole ∙ is))))

pub returns-in-Some-clause-some : goal.returns-in-Some-clause-some
returns-in-Some-clause-some c =
    let strip = c.in-Some.ensures.cases in
    let number = c.in_ok-number.ensures.some in
    let digits = seventeen c.in_ok-number.number number.0 in (
      omega (arith, number.0, c.from.ensures),
      stripped 48 c.args.bytes.now c.in-Some.low.now strip.0 strip.1
          ∙ ap (λ (bs : List ℕ). 48 ∷ bs) number.1
          ∙ ap (λ (bs : List ℕ). bs ++ c.args.end ∷ c.in_ok-number.rest.now) (sym digits ∙ ap (hex_digits 17) (sym c.from.ensures)),
    )

pub returns-in_err-rest-clause-none : goal.returns-in_err-rest-clause-none
returns-in_err-rest-clause-none c =
    let low : (rest : List ℕ) → c.args.bytes.now ≡ codes "0" ++ rest → ⊥ = search rules in
    rw c.from_residual-in_err-rest.ensures (no_top c.args.end c.args.bytes.now (λ n rest small is. low _ is) c.in_err-rest.ensures.none)

pub returns-clause-some : goal.returns-clause-some
returns-clause-some c = (
  omega arith,
  c.in_ok-rest.ensures.some ∙ ap (λ (bs : List ℕ). bs ++ c.args.end ∷ c.in_ok-rest.rest.now) (sym seventeen-end),
)
