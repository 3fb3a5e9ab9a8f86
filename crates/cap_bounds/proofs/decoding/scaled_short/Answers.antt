use Rattle.std.proofs.Common.{ℕ, ◌<◌, ◌^◌, sym, subst}
use Rattle.cap_bounds.proofs.WrappedBounds.{short_shifted, short-lt}
use Rattle.cap_bounds.proofs.decoding.scaled_short.Goals as goal

value : goal.returns-clause-value
value c = short_shifted c.args.cut_exponent c.args.units c.requires.exponent_fits c.requires.units_fit

pub returns-clause-value : goal.returns-clause-value
returns-clause-value c = value c

pub returns-clause-small : goal.returns-clause-small
returns-clause-small c =
    subst (λ (x : ℕ). x < 2 ^ 63) (sym (value c)) (short-lt c.args.cut_exponent c.args.units c.requires.exponent_fits c.requires.units_fit)
