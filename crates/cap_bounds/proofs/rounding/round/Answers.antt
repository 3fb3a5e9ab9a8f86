use Rattle.std.proofs.Common.{ℕ, ◌+◌, ◌*◌, ◌/◌, ◌^◌, sym, ap, ◌∙◌, arith}
use Rattle.cap_bounds.specs.Rounding.{div_up}
use Rattle.cap_bounds.proofs.LeastExponents.{rounded_exponent-short}
use Rattle.cap_bounds.proofs.Roundings.{rounded_base-short, rounded_top-short, rounded_base-long, rounded_top-long}
use Rattle.cap_bounds.proofs.SailRoundingLemmas.{sail_ie-is, sail_exponent-is, sail_b-is, sail_t-is, exact_as_sail}
use Rattle.cap_bounds.proofs.rounding.round.Goals as goal

pub returns : goal.returns
returns c =
    let b = c.args.base in
    let l = c.args.length in
    let is = c.round_by_length.ensures in
    record {
      base = is.base;
      top = is.top;
      ie = is.fields.0;
      e = is.fields.1;
      b = is.fields.2;
      t = is.fields.3;
      exact = is.exact;
      short = λ h. (is.fields.1 ∙ rounded_exponent-short b l h, is.base ∙ rounded_base-short b l h, is.top ∙ rounded_top-short b l h);
      least = is.least;
      rounded_down = λ h. is.base ∙ rounded_base-long b l h ∙ ap (λ (x : ℕ). b / 2 ^ (x + 3) * 2 ^ (x + 3)) (sym is.fields.1);
      rounded_up = λ h. is.top ∙ rounded_top-long b l h ∙ ap (λ (x : ℕ). div_up (b + l) (2 ^ (x + 3)) * 2 ^ (x + 3)) (sym is.fields.1);
      model_ie = is.fields.0 ∙ sym (sail_ie-is l (omega arith));
      model_e = is.fields.1 ∙ sym (sail_exponent-is b l (omega arith) (omega arith));
      model_b = is.fields.2 ∙ sym (sail_b-is b l (omega arith) (omega arith));
      model_t = is.fields.3 ∙ sym (sail_t-is b l (omega arith) (omega arith));
      model_exact = exact_as_sail b l c.round_by_length.result.exact (omega arith) (omega arith) is.exact;
    }
