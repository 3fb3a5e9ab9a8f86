use Rattle.std.proofs.Common.{◌≡◌, ◌+◌, ◌*◌, ◌%◌, ◌^◌, sym, ◌∙◌, arith}
use Rattle.cap_bounds.specs.Bounds.{raw_base_at}
use Rattle.cap_bounds.proofs.{Decoded.{decoded, top_at-corrected}, WrappedBounds.top_without_address}
use Rattle.cap_bounds.proofs.decoding.decode.Goals as goal

pub returns-then-cut_exponent-le-LAST_CORRECTED_EXPONENT : goal.returns-then-cut_exponent-le-LAST_CORRECTED_EXPONENT
returns-then-cut_exponent-le-LAST_CORRECTED_EXPONENT c =
    let s = c.scale_of-cut_exponent in
    let e = s.result.cut_exponent in
    let raw = raw_base_at e s.result.b c.address.result in
    let is = decoded c.args.word.0 e s.result.b s.result.span c.address.result s.ensures.cut_exponent s.ensures.b s.ensures.span
    c.address.ensures.value in
    let sum : c.from.result + c.from-length.result ≡ raw % 2 ^ 64 + s.result.span * 2 ^ e =
    omega (arith, c.from.ensures, c.from-length.ensures, c.scaled_short.ensures.value, c.base_from-base.ensures) in
    record {
      base = c.base_from-base.ensures ∙ is.0;
      top = sum ∙ sym (top_at-corrected e raw (s.result.span * 2 ^ e) c.if-cut_exponent-le-LAST_CORRECTED_EXPONENT.true) ∙ is.2;
      length = c.from-length.ensures ∙ c.scaled_short.ensures.value ∙ is.1;
      small = omega (arith, c.from-length.ensures, c.scaled_short.ensures.small);
    }

pub returns-else-cut_exponent-le-LAST_CORRECTED_EXPONENT : goal.returns-else-cut_exponent-le-LAST_CORRECTED_EXPONENT
returns-else-cut_exponent-le-LAST_CORRECTED_EXPONENT c =
    let s = c.scale_of-cut_exponent in
    let e = s.result.cut_exponent in
    let is = decoded c.args.word.0 e s.result.b s.result.span c.address.result s.ensures.cut_exponent s.ensures.b s.ensures.span
    c.address.ensures.value in
    record {
      base = c.base_from-base.ensures ∙ is.0;
      top = c.uncorrected_top.ensures
          ∙ top_without_address e s.result.b c.address.result s.result.span c.if-cut_exponent-le-LAST_CORRECTED_EXPONENT.false ∙ is.2;
      length = c.scaled.ensures.value ∙ is.1;
      small = c.scaled.ensures.small;
    }
