use Rattle.std.proofs.Common.{◌/◌, ◌^◌, ap, ◌∙◌, arith}
use Rattle.cap_word.specs.Fields.{address_of, ie_of, e_of, b_of, t_of}
use Rattle.cap_bounds.specs.declared.rounding.Rounded.{Rounded}
use Rattle.cap_bounds.proofs.BoundedWords.{AreFields, above-bounded_word, address_of-bounded_word, ie_of-bounded_word}
use Rattle.cap_bounds.proofs.{BoundedWords.{e_of-bounded_word, b_of-bounded_word, t_of-bounded_word}, RoundedWords.decodes}
use Rattle.cap_bounds.proofs.rounding.with_bounds.Goals as goal

-- a rounding's fields are fields of a word
fields : (r : Rounded) → AreFields r.ie r.e r.b r.t
fields r = record {
  e_fits = omega (arith, r.e_fits);
  b_fits = r.b_fits;
  t_fits = r.t_fits;
  no_exponent = r.no_exponent;
  b_aligned = r.b_aligned;
  t_aligned = r.t_aligned;
}

pub returns : goal.returns
returns c =
    let w = c.args.word.0 in
    let r = c.args.rounded.now in
    let is = c.replace_bounds.ensures.word in
    record {
      word = is;
      kept = ap (λ x. x / 2 ^ 91) is ∙ above-bounded_word w r.ie r.e r.b r.t c.args.address (omega arith) (fields r);
      address = ap address_of is ∙ address_of-bounded_word w r.ie r.e r.b r.t c.args.address (omega arith) (fields r);
      ie = ap ie_of is ∙ ie_of-bounded_word w r.ie r.e r.b r.t c.args.address (omega arith) (fields r);
      e = ap e_of is ∙ e_of-bounded_word w r.ie r.e r.b r.t c.args.address (omega arith) (fields r);
      b = ap b_of is ∙ b_of-bounded_word w r.ie r.e r.b r.t c.args.address (omega arith) (fields r);
      t = ap t_of is ∙ t_of-bounded_word w r.ie r.e r.b r.t c.args.address (omega arith) (fields r);
      decodes = λ base length fits l_fits within at rounds.
          decodes w c.replace_bounds.result.0 r.ie r.e r.b r.t c.args.address base length is fits l_fits within at rounds;
    }
