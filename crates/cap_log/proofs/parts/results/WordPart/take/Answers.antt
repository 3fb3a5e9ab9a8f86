use Rattle.std.proofs.Common.{sym, arith, rules, length-take-le}
use Rattle.std.proofs.lemmas.List.{take_rest}
use Rattle.cap_word.specs.Digits.{hex_digits}
use Rattle.cap_word.proofs.DigitLemmas.{length-hex_digits}
use Rattle.cap_log.specs.Lines.{IsWord}
use Rattle.cap_log.proofs.TakeLemmas.{cut_behind, none_ended, none_in_front}
use Rattle.cap_log.proofs.parts.results.WordPart.take.Goals as goal

pub returns-then-bytes-le-WORD_DIGITS-clause-none : goal.returns-then-bytes-le-WORD_DIGITS-clause-none
returns-then-bytes-le-WORD_DIGITS-clause-none c =
    none_ended (λ a. IsWord a.0) (λ a. hex_digits 32 a.0) c.args.end 32 (λ a fits. length-hex_digits 32 a.0) c.args.bytes.now
    (λ before ended. search rules)

pub returns-in_err-word-clause-none : goal.returns-in_err-word-clause-none
returns-in_err-word-clause-none c =
    rw c.from_residual.ensures (none_in_front (λ a. IsWord a.0) (λ a. hex_digits 32 a.0) c.args.end 32 (λ a fits. length-hex_digits 32 a.0)
    c.args.bytes.now (λ a. c.in_err-word.ensures.none a.0))

pub slice_bounds-read_word-end : goal.slice_bounds-read_word-end
slice_bounds-read_word-end c = sym (length-take-le 32 c.args.bytes.now (omega arith))

pub returns-clause-some : goal.returns-clause-some
returns-clause-some c = (
  search rules,
  rw (take_rest c.args.bytes.now 33, ← c.in_ok-word.ensures.some)
      (cut_behind 32 c.args.end c.args.bytes.now c.if-bytes-le-WORD_DIGITS.false c.if-bytes-end.false),
)
