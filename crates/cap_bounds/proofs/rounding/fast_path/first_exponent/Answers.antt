use Rattle.std.proofs.Common.{arith}
use Rattle.cap_bounds.proofs.LeastExponents.{start_is}
use Rattle.cap_bounds.proofs.rounding.fast_path.first_exponent.Goals as goal

pub overflow_sub-result : goal.overflow_sub-result
overflow_sub-result c = (start_is c.args.length c.requires (omega arith)).0

pub returns-clause-low : goal.returns-clause-low
returns-clause-low c = (start_is c.args.length c.requires (omega arith)).1

pub returns-clause-high : goal.returns-clause-high
returns-clause-high c = (start_is c.args.length c.requires (omega arith)).2
