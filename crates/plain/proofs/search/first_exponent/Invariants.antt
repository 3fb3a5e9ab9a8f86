use Rattle.std.proofs.Common.{ℕ, ◌<◌, ◌≤◌}
use Rattle.cap_bounds.specs.Rounding.{units_of}
use Rattle.plain.proofs.search.first_exponent.Given as goal

abbrev pub invariant-loop-e : goal.invariant-loop-e
invariant-loop-e l = (k : ℕ) → k < l.e → 1024 ≤ units_of l.base l.length k
