use Rattle.std.specs.Int.{w128}
use Rattle.std.proofs.Common.{◌≡◌, ℕ, ◌+◌, ◌/◌, ◌%◌, ◌^◌, ◌<◌, ◌≤◌, sym, ap, ◌∙◌, subst, arith, lit<, lit≤, ℤ, to_z}
use Rattle.std.proofs.Common.{of_z, pow_pos}
use Rattle.cap_bounds.proofs.Powers.{pow_le}
use Rattle.plain.specs.Raised.{IsNear, raised}
use Rattle.plain.proofs.Signed.{coded_low, low-near, start-begins, start-near, passed, eighths_are}
use Rattle.plain.proofs.decoding.window_start.Goals as goal

size-le : (e : ℕ) → e ≤ 52 → 2 ^ (e + 14) ≤ 2 ^ 66
size-le e h = pow_le (e + 14) 66 (omega arith)

pub residue-requires-clause-low_near : goal.residue-requires-clause-low_near
residue-requires-clause-low_near c =
    let e = c.args.exponent in
    let small = size-le e c.requires.exponent_fits in
    let fits : c.args.address < 2 ^ 64 = omega arith in
    low-near c.args.address (2 ^ (e + 14)) _ fits (pow_pos (e + 14)) small
    (coded_low c.args.address (2 ^ (e + 14)) c.from.result c.power.result fits small c.from.ensures c.power.ensures)

-- the result comes back from its bits as it was
result_is : (c : goal.After-residue) → to_z w128 (of_z w128 c.residue.result) ≡ c.residue.result
result_is c = passed (2 ^ 67) c.residue.result (lit< tt) (lit≤ tt) c.residue.ensures.near

pub returns-clause-near : goal.returns-clause-near
returns-clause-near c =
    let e = c.args.exponent in
    let small = size-le e c.requires.exponent_fits in
    let fits : c.args.address < 2 ^ 64 = omega arith in
    subst (IsNear (2 ^ 64)) (sym (result_is c))
    (start-near c.args.address (2 ^ (e + 14)) _ fits (pow_pos (e + 14)) small
    (coded_low c.args.address (2 ^ (e + 14)) c.from.result c.power.result fits small c.from.ensures c.power.ensures)
    c.residue.result _ c.residue.ensures.residue c.residue.ensures.near)

pub returns-clause-begins : goal.returns-clause-begins
returns-clause-begins c =
    let e = c.args.exponent in
    let small = size-le e c.requires.exponent_fits in
    let fits : c.args.address < 2 ^ 64 = omega arith in
    subst (λ (z : ℤ). raised z ≤ c.args.address + 2 ^ 66) (sym (result_is c))
    (start-begins c.args.address (2 ^ (e + 14)) _ fits (pow_pos (e + 14)) small
    (coded_low c.args.address (2 ^ (e + 14)) c.from.result c.power.result fits small c.from.ensures c.power.ensures)
    c.residue.result _ c.residue.ensures.residue c.residue.ensures.near)

pub returns-clause-aligned : goal.returns-clause-aligned
returns-clause-aligned c =
    let e = c.args.exponent in
    let k = (c.args.b / 2048 + 7) % 8 in
    let near : IsNear (2 ^ 67) c.scaled-offset.result =
    subst (IsNear (2 ^ 67)) (sym c.scaled-offset.ensures.value) (omega (arith, c.scaled-offset.ensures.small)) in
    let offset_is = passed (2 ^ 67) c.scaled-offset.result (lit< tt) (lit≤ tt) near ∙ c.scaled-offset.ensures.value in
    ap (λ (z : ℤ). raised z % 2 ^ (e + 14)) (result_is c) ∙ c.residue.ensures.residue.congruent
    ∙ ap (λ (z : ℤ). raised z % 2 ^ (e + 14)) offset_is ∙ eighths_are k e (omega arith) c.requires.exponent_fits
