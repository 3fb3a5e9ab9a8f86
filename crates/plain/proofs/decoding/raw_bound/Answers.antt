use Rattle.std.specs.Int.{w128}
use Rattle.std.proofs.Common.{◌+◌, ◌*◌, ◌^◌, sym, ◌∙◌, subst, arith, lit<, lit≤, ℤ, to_z, of_z}
use Rattle.cap_bounds.specs.Bounds.{IsResidue}
use Rattle.plain.specs.Raised.{IsNear, raised}
use Rattle.plain.proofs.Signed.{natural_residue, passed}
use Rattle.plain.proofs.decoding.raw_bound.Goals as goal

pub returns-clause-residue : goal.returns-clause-residue
returns-clause-residue c =
    let e = c.args.exponent in
    let value = c.args.units * 2 ^ e in
    let scaled = c.scaled.ensures.value in
    let coded = raised (to_z w128 (of_z w128 c.scaled.result)) in
    let near : IsNear (2 ^ 67) c.scaled.result = subst (IsNear (2 ^ 67)) (sym scaled) (omega (arith, c.scaled.ensures.small)) in
    let start_is = passed (2 ^ 64) c.args.start (lit< tt) (lit≤ tt) c.requires.start_near in
    let result_is = passed (2 ^ 67) c.residue.result (lit< tt) (lit≤ tt) c.residue.ensures.near in
    let value_is = passed (2 ^ 67) c.scaled.result (lit< tt) (lit≤ tt) near ∙ scaled in
    natural_residue (raised c.args.start) value _ (e + 14) (omega (arith, c.requires.exponent_fits))
    (subst (λ (z : ℤ). IsResidue (raised c.args.start) (2 ^ (e + 14)) (value + 2 ^ 66) (raised z)) (sym result_is)
    (subst (λ (z : ℤ). IsResidue (raised c.args.start) (2 ^ (e + 14)) (raised z) (raised c.residue.result)) value_is
    (subst (λ (z : ℤ). IsResidue (raised z) (2 ^ (e + 14)) coded (raised c.residue.result)) start_is c.residue.ensures.residue)))
