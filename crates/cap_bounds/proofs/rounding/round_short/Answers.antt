use Rattle.std.proofs.{Common.{ℕ, ◌%◌, ◌^◌, sym, ap, ◌∙◌, refl}, lemmas.Nat.and_mask}
use Rattle.cap_bounds.proofs.LeastExponents.{rounded_exponent-short}
use Rattle.cap_bounds.proofs.Roundings.{rounded_base-short, rounded_ie-short, rounded_top-short, short_b, short_t}
use Rattle.cap_bounds.proofs.rounding.round_short.Goals as goal

pub returns-clause-base : goal.returns-clause-base
returns-clause-base c = sym (rounded_base-short c.args.base c.args.length c.requires)

pub returns-clause-top : goal.returns-clause-top
returns-clause-top c = c.requested_top-top.ensures.value ∙ sym (rounded_top-short c.args.base c.args.length c.requires)

pub returns-clause-fields : goal.returns-clause-fields
returns-clause-fields c = (
  sym (rounded_ie-short c.args.length c.requires),
  sym (rounded_exponent-short c.args.base c.args.length c.requires),
  and_mask c.args.base 14 ∙ short_b c.args.base c.args.length c.requires,
  and_mask c.requested_top-top.result 14 ∙ ap (λ (x : ℕ). x % 2 ^ 14) c.requested_top-top.ensures.value
      ∙ short_t c.args.base c.args.length c.requires,
)

pub returns-clause-exact : goal.returns-clause-exact
returns-clause-exact c =
    (λ _. (rounded_base-short c.args.base c.args.length c.requires, rounded_top-short c.args.base c.args.length c.requires), λ _. refl)
