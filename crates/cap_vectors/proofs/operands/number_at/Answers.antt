use Rattle.std.proofs.Common.{◌≡◌, ℕ, Option, IsSomeAnd, refl, sym, subst, arith}
use Rattle.cap_word.specs.Digits.{hex_digits}
use Rattle.cap_word.proofs.DigitLemmas.{length-hex_digits}
use Rattle.cap_vectors.proofs.VectorLemmas.{slice_at, slice_within}
use Rattle.cap_vectors.proofs.operands.number_at.Goals as goal

pub returns-then-line-at : goal.returns-then-line-at
returns-then-line-at c = record {
  value = λ n front rest fits before is.
      let long = slice_within c.args.line.now front (hex_digits 16 n) rest is in
      absurd (omega (arith, long, before, length-hex_digits 16 n, c.if-line-at.true));
}

pub returns : goal.returns
returns c = record {
  value = λ n front rest fits before is.
      subst (λ (r : Option ℕ). IsSomeAnd r (λ m. m ≡ n)) (sym (c.read_u64.ensures.reads_back n fits
      (slice_at c.args.line.now front (hex_digits 16 n) rest c.args.at 16 is before (length-hex_digits 16 n)))) refl;
}
