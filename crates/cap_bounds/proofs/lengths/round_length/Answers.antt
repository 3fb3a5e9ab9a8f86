use Rattle.std.proofs.{Common.{◌<◌, ◌≤◌, ◌^◌, ℕ, sym, subst, arith}, Math.Nat.zero-mod}
use Rattle.cap_bounds.specs.Rounding.{IsExact, alignment_of}
use Rattle.cap_bounds.proofs.ExactLengths.{rounded_length-le, exact-at-aligned, rounded_length-least}
use Rattle.cap_bounds.proofs.lengths.round_length.Goals as goal

pub returns-clause-within : goal.returns-clause-within
returns-clause-within c = subst (λ (x : ℕ). x ≤ 2 ^ 64) (sym c.round.ensures.top) (rounded_length-le c.args.length (omega arith))

pub returns-clause-exact : goal.returns-clause-exact
returns-clause-exact c = λ h.
    subst (λ (x : ℕ). IsExact 0 x) (sym c.round.ensures.top)
    (exact-at-aligned c.args.length (omega arith) (subst (λ (x : ℕ). x < 2 ^ 64) c.round.ensures.top h) 0
    (zero-mod (alignment_of c.args.length)))

pub returns-clause-least : goal.returns-clause-least
returns-clause-least c = λ shorter base from below fits exact.
    rounded_length-least c.args.length (omega arith) shorter base from (subst (λ (x : ℕ). shorter < x) c.round.ensures.top below) exact
