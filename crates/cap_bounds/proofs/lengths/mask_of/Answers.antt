use Rattle.std.proofs.Common.{◌≡◌, ◌+◌, ◌*◌, ◌-◌, ◌%◌, ◌^◌, ◌≤◌, ℕ, true, false, sym, ap, ◌∙◌, inl, inr, arith}
use Rattle.std.proofs.lemmas.Bool.{cases_lt}
use Rattle.cap_bounds.specs.Rounding.{rounded_ie}
use Rattle.cap_bounds.proofs.ExactLengths.{alignment-short, alignment-long, mask_shifted}
use Rattle.cap_bounds.proofs.Roundings.{rounded_ie-short, rounded_ie-long}
use Rattle.cap_bounds.proofs.lengths.mask_of.Goals as goal

long-from : (n : ℕ) → rounded_ie n ≡ true → 4096 ≤ n
long-from n h = elim (cases_lt n 4096) [ inl short ↦ let is : rounded_ie n ≡ false = rounded_ie-short n short in cc | inr p ↦ p ]

short-from : (n : ℕ) → rounded_ie n ≡ false → n + 1 ≤ 4096
short-from n h = elim (cases_lt n 4096) [ inl p ↦ omega arith | inr long ↦ let is : rounded_ie n ≡ true = rounded_ie-long n long in cc ]

pub returns-then-ie : goal.returns-then-ie
returns-then-ie c =
    let long = long-from c.args.length (sym c.round-ie.ensures.ie ∙ c.if-ie.true) in
    let e = c.round-ie.result.e in
    let g = alignment-long c.args.length long ∙ ap (λ (x : ℕ). 2 ^ (x + 3)) (sym c.round-ie.ensures.e) in
    ap (λ (x : ℕ). (2 ^ 64 - 1) * 2 ^ (e + 3) % 2 ^ 64 + x) g ∙ mask_shifted e c.round-ie.result.e_fits

pub returns-else-ie : goal.returns-else-ie
returns-else-ie c =
    let short = short-from c.args.length (sym c.round-ie.ensures.ie ∙ c.if-ie.false) in
    omega (arith, alignment-short c.args.length (omega arith))
