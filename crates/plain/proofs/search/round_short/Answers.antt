use Rattle.std.proofs.Common.{◌≡◌, ℕ, ◌+◌, ◌%◌, ◌^◌, sym, ap, ◌∙◌, refl, arith}
use Rattle.cap_bounds.proofs.LeastExponents.{rounded_exponent-short}
use Rattle.cap_bounds.proofs.Roundings.{rounded_base-short, rounded_top-short, rounded_ie-short, short_b, short_t}
use Rattle.plain.proofs.search.round_short.Goals as goal

-- the top is the request's
top_is : (c : goal.After-result-1) → c.from.result + c.from-2.result ≡ c.args.base + c.args.length
top_is c = omega (arith, c.from.ensures, c.from-2.ensures)

pub returns-clause-rounding : goal.returns-clause-rounding
returns-clause-rounding c =
    let b = c.args.base in
    let l = c.args.length in (
      sym (rounded_ie-short l c.requires),
      sym (rounded_exponent-short b l c.requires),
      short_b b l c.requires,
      ap (λ (x : ℕ). x % 2 ^ 14) (top_is c) ∙ short_t b l c.requires,
    )

pub returns-clause-base : goal.returns-clause-base
returns-clause-base c = sym (rounded_base-short c.args.base c.args.length c.requires)

pub returns-clause-top : goal.returns-clause-top
returns-clause-top c = top_is c ∙ sym (rounded_top-short c.args.base c.args.length c.requires)

pub returns-clause-exact : goal.returns-clause-exact
returns-clause-exact c = (
  λ _. (rounded_base-short c.args.base c.args.length c.requires, rounded_top-short c.args.base c.args.length c.requires),
  λ _. refl,
)
