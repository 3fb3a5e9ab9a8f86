use Rattle.std.proofs.{Common.{◌≡◌, ◌+◌, sym, arith}, lemmas.Bool.Decides.nat_tests}
use Rattle.cap_bounds.proofs.Roundings.{exponent_is, rounded_ie-long}
use Rattle.plain.proofs.Searched.{base_found, top_found, top_found-le, b_found, t_found}
use Rattle.plain.proofs.search.round_at.Goals.{then-down-unit, else-down-unit}
use Rattle.plain.proofs.search.round_at.Goals as goal

pub invariant_of-result-clause-top_fits : goal.invariant_of-result-clause-top_fits
invariant_of-result-clause-top_fits c = top_found-le
    c.args.base c.args.length c.args.e c.unit_at-unit.result c.from-3.result (c.from.result + c.from-2.result) c.units_up-up.result
    c.requires.long (omega arith) (omega arith) c.requires.least c.unit_at-unit.ensures.value c.from-3.ensures
    (omega (arith, c.from.ensures, c.from-2.ensures)) c.units_up-up.ensures

pub returns-clause-base : goal.returns-clause-base
returns-clause-base c = base_found
    c.args.base c.args.length c.args.e c.unit_at-unit.result c.from-3.result (c.from.result + c.from-2.result) c.units_up-up.result
    c.requires.long (omega arith) (omega arith) c.requires.least c.unit_at-unit.ensures.value c.from-3.ensures
    (omega (arith, c.from.ensures, c.from-2.ensures)) c.units_up-up.ensures

pub returns-clause-top : goal.returns-clause-top
returns-clause-top c = top_found
    c.args.base c.args.length c.args.e c.unit_at-unit.result c.from-3.result (c.from.result + c.from-2.result) c.units_up-up.result
    c.requires.long (omega arith) (omega arith) c.requires.least c.unit_at-unit.ensures.value c.from-3.ensures
    (omega (arith, c.from.ensures, c.from-2.ensures)) c.units_up-up.ensures

pub returns-clause-rounding : goal.returns-clause-rounding
returns-clause-rounding c = (
  sym (rounded_ie-long c.args.length c.requires.long),
  sym (exponent_is c.args.base c.args.length c.args.e c.requires.long (omega arith) c.requires.least),
  b_found
      c.args.base c.args.length c.args.e c.unit_at-unit.result c.from-3.result (c.from.result + c.from-2.result) c.units_up-up.result
      c.requires.long (omega arith) (omega arith) c.requires.least c.unit_at-unit.ensures.value c.from-3.ensures
      (omega (arith, c.from.ensures, c.from-2.ensures)) c.units_up-up.ensures,
  t_found
      c.args.base c.args.length c.args.e c.unit_at-unit.result c.from-3.result (c.from.result + c.from-2.result) c.units_up-up.result
      c.requires.long (omega arith) (omega arith) c.requires.least c.unit_at-unit.ensures.value c.from-3.ensures
      (omega (arith, c.from.ensures, c.from-2.ensures)) c.units_up-up.ensures,
)

pub returns-clause-exact : goal.returns-clause-exact
returns-clause-exact c =
    let base = returns-clause-base c in
    let top = returns-clause-top c in
    let sum : c.from.result + c.from-2.result ≡ c.args.base + c.args.length = omega (arith, c.from.ensures, c.from-2.ensures) in
    let same = c.from-4.ensures in
    elim c.if-down-unit.branch [
      | then-down-unit w ↦ let is = w.result-is in let test = w.if-down-unit.true in grind (arith, nat_tests)
      | else-down-unit w ↦ let is = w.result-is in let test = w.if-down-unit.false in grind (arith, nat_tests)
    ]
