use Rattle.std.proofs.Common.{ℕ, ◌*◌, ◌%◌, ◌^◌, ◌<◌, sym, ap, ◌∙◌, subst}
use Rattle.cap_bounds.proofs.Decoded.{length_shifted, length_at-lt}
use Rattle.cap_bounds.proofs.decoding.scaled.Goals as goal

value : goal.returns-clause-value
value c = ap (λ (x : ℕ). x * 2 ^ c.args.cut_exponent % 2 ^ 128) c.from.ensures
    ∙ length_shifted c.args.cut_exponent c.args.units c.requires.exponent_fits c.requires.units_fit

pub returns-clause-value : goal.returns-clause-value
returns-clause-value c = value c

pub returns-clause-small : goal.returns-clause-small
returns-clause-small c = subst (λ (x : ℕ). x < 2 ^ 65) (sym (value c))
    (length_at-lt c.args.cut_exponent c.args.units c.requires.exponent_fits c.requires.units_fit)
