use Rattle.std.proofs.Common.{◌≡◌, ℕ, ◌+◌, ◌-◌, ◌*◌, ◌%◌, ◌^◌, ◌<◌, ◌≤◌, min, ap, ◌∙◌, sym, subst, arith, mod-eq_of_lt}
use Rattle.plain.proofs.{Found.length_found, Signed.scaled-lt}
use Rattle.plain.proofs.decoding.plain_length.Goals as goal

-- the shift loses nothing
shifted : (units e : ℕ) → units < 2 ^ 14 → e ≤ 52 → units * 2 ^ e % 2 ^ 128 ≡ units * 2 ^ e
shifted units e h k = mod-eq_of_lt (omega (arith, scaled-lt units e h k))

pub returns-clause-value : goal.returns-clause-value
returns-clause-value c =
    let f = c.split-fields in
    let e = c.exponent_of in
    let span = (c.plain_mantissa.result + 2 ^ 14 - f.result.b) % 2 ^ 14 in
    ap (λ (x : ℕ). x * 2 ^ e.result % 2 ^ 128) c.from.ensures ∙ shifted span e.result (omega arith) e.ensures.small
    ∙ length_found c.args.word.0 e.result f.result.b f.result.t f.result.ie c.plain_mantissa.result
    (e.ensures.value ∙ ap (λ (x : ℕ). min x 52) f.ensures.e) f.ensures.b f.ensures.t f.ensures.ie c.plain_mantissa.ensures.relation

pub returns-clause-small : goal.returns-clause-small
returns-clause-small c =
    let f = c.split-fields in
    let e = c.exponent_of in
    let span = (c.plain_mantissa.result + 2 ^ 14 - f.result.b) % 2 ^ 14 in
    let is = ap (λ (x : ℕ). x * 2 ^ e.result % 2 ^ 128) c.from.ensures ∙ shifted span e.result (omega arith) e.ensures.small in
    subst (λ (x : ℕ). x < 2 ^ 66) (sym is) (scaled-lt span e.result (omega arith) e.ensures.small)
