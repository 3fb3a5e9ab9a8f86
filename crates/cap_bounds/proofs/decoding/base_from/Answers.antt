use Rattle.cap_bounds.proofs.WrappedBounds.{base_floored}
use Rattle.cap_bounds.proofs.decoding.base_from.Goals as goal

pub returns : goal.returns
returns c = base_floored c.args.cut_exponent c.args.b c.args.address c.requires.exponent_fits c.requires.b_fits
