use Rattle.std.proofs.{Common.{ℕ, ◌+◌, ◌*◌, ◌%◌, ◌^◌, ap, ◌∙◌, arith}, lemmas.Bool.Decides.nat_tests}
use Rattle.cap_bounds.specs.Rounding.{div_up}
use Rattle.cap_bounds.proofs.Roundings.{long_request}
use Rattle.cap_bounds.proofs.rounding.round_long.Goals as goal

pub invariant_of-result-clause-top_fits : goal.invariant_of-result-clause-top_fits
invariant_of-result-clause-top_fits c =
    let e = c.least_exponent-e in
    let long = long_request c.args.base c.args.length e.result c.units_down-low.result c.units_up-high.result c.requires (omega arith)
    (omega arith) e.ensures c.units_down-low.ensures
    (c.units_up-high.ensures ∙ ap (λ (x : ℕ). div_up x (2 ^ (e.result + 3))) c.requested_top-top.ensures.value) in
    long.top_fits

pub returns : goal.returns
returns c =
    let e = c.least_exponent-e in
    let long = long_request c.args.base c.args.length e.result c.units_down-low.result c.units_up-high.result c.requires (omega arith)
    (omega arith) e.ensures c.units_down-low.ensures
    (c.units_up-high.ensures ∙ ap (λ (x : ℕ). div_up x (2 ^ (e.result + 3))) c.requested_top-top.ensures.value) in
    let base_is = long.base_is in
    let top_is = long.top_is in
    record {
      base = base_is;
      top = top_is;
      fields = (
        long.ie_is,
        long.e_is,
        c.mantissa_from.ensures.value ∙ ap (λ (x : ℕ). 8 * x % 2 ^ 14) c.from.ensures ∙ long.b_is,
        c.mantissa_from-2.ensures.value ∙ long.t_is,
      );
      exact = grind (arith, nat_tests);
      least = e.ensures;
    }
