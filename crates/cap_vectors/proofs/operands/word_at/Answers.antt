use Rattle.std.proofs.Common.{arith}
use Rattle.cap_word.specs.Digits.{hex_digits}
use Rattle.cap_word.proofs.DigitLemmas.{length-hex_digits}
use Rattle.cap_vectors.proofs.VectorLemmas.{slice_at, slice_within}
use Rattle.cap_vectors.proofs.operands.word_at.Goals as goal

pub returns-then-line-at : goal.returns-then-line-at
returns-then-line-at c = record {
  value = λ n front rest fits before is.
      let long = slice_within c.args.line.now front (hex_digits 32 n) rest is in
      absurd (omega (arith, long, before, length-hex_digits 32 n, c.if-line-at.true));
}

pub returns : goal.returns
returns c = record {
  value = λ n front rest fits before is.
      c.read_word.ensures.reads_back n fits (slice_at c.args.line.now front (hex_digits 32 n)
      rest c.args.at 32 is before (length-hex_digits 32 n));
}
