use Rattle.std.specs.Int.{w128}
use Rattle.std.proofs.Common.{ℕ, ◌+◌, ◌*◌, ◌%◌, ◌^◌, min, ap, ◌∙◌, subst, ℤ, lit<, lit≤, to_z, of_z}
use Rattle.cap_bounds.specs.Bounds.{IsResidue}
use Rattle.plain.specs.Raised.{raised}
use Rattle.plain.proofs.{Found.found_bounds, Signed.passed}
use Rattle.plain.proofs.decoding.plain_bounds.Goals as goal

pub returns : goal.returns
returns c =
    let f = c.split-fields in
    let e = c.exponent_of-exponent in
    let start = c.window_start-start in
    let raw_base = c.raw_bound-raw_base in
    let raw_top = c.raw_bound-raw_top in
    let start_is = passed (2 ^ 64) start.result (lit< tt) (lit≤ tt) start.ensures.near in
    let base_is = passed (2 ^ 67) raw_base.result (lit< tt) (lit≤ tt) raw_base.ensures.near in
    let top_is = passed (2 ^ 67) raw_top.result (lit< tt) (lit≤ tt) raw_top.ensures.near in
    let size = 2 ^ (e.result + 14) in
    let in_window = λ (units : ℕ) (x : ℕ) (is : IsResidue (raised (to_z w128 (of_z w128 start.result))) size (units * 2 ^ e.result) x).
    subst (λ (z : ℤ). IsResidue (raised z) size (units * 2 ^ e.result) x) start_is is in
    record {
      relation = found_bounds c.args.word.0 e.result f.result.b f.result.t f.result.ie f.result.address c.plain_mantissa.result
          (raised start.result) (raised raw_base.result) (raised raw_top.result) c.cut-base.result c.top_from.result
          (e.ensures.value ∙ ap (λ (x : ℕ). min x 52) f.ensures.e) f.ensures.b f.ensures.t f.ensures.ie f.ensures.address
          (record {
            mantissa_is = c.plain_mantissa.ensures.relation;
            begins = start.ensures.begins;
            ends = start.ensures.ends;
            aligned = start.ensures.aligned;
            raw_base_is = in_window f.result.b (raised raw_base.result) raw_base.ensures.residue;
            raw_top_is = in_window c.plain_mantissa.result (raised raw_top.result) raw_top.ensures.residue;
            base_is = c.cut-base.ensures ∙ ap (λ (z : ℤ). raised z % 2 ^ 64) base_is;
            corrected_top = λ near. subst (λ (z : ℤ). IsResidue c.cut-base.result (2 ^ 64) (raised z) c.top_from.result) top_is
                (c.top_from.ensures.corrected near);
            uncorrected_top = λ far. c.top_from.ensures.uncorrected far ∙ ap (λ (z : ℤ). raised z % 2 ^ 65) top_is;
          });
    }
