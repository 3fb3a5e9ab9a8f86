use Rattle.std.proofs.Common.{sym, arith, rules, length-take-le}
use Rattle.std.proofs.lemmas.List.{take_rest}
use Rattle.cap_word.specs.Digits.{hex_digits}
use Rattle.cap_word.proofs.DigitLemmas.{length-hex_digits}
use Rattle.cap_log.specs.Lines.{IsNumber}
use Rattle.cap_log.proofs.TakeLemmas.{cut_behind, none_ended, none_in_front}
use Rattle.cap_log.proofs.parts.hexadecimals.U64Part.take.Goals as goal

pub returns-then-bytes-le-NUMBER_DIGITS-clause-none : goal.returns-then-bytes-le-NUMBER_DIGITS-clause-none
returns-then-bytes-le-NUMBER_DIGITS-clause-none c =
    none_ended IsNumber (hex_digits 16) c.args.end 16 (λ a fits. length-hex_digits 16 a) c.args.bytes.now (λ before ended. search rules)

pub returns-in_err-number-clause-none : goal.returns-in_err-number-clause-none
returns-in_err-number-clause-none c =
    rw c.from_residual.ensures (none_in_front IsNumber (hex_digits 16) c.args.end 16 (λ a fits. length-hex_digits 16 a) c.args.bytes.now
    c.in_err-number.ensures.none)

pub slice_bounds-read_u64-end : goal.slice_bounds-read_u64-end
slice_bounds-read_u64-end c = sym (length-take-le 16 c.args.bytes.now (omega arith))

pub returns-clause-some : goal.returns-clause-some
returns-clause-some c = (
  search rules,
  rw (take_rest c.args.bytes.now 17, ← c.in_ok-number.ensures.some)
      (cut_behind 16 c.args.end c.args.bytes.now c.if-bytes-le-NUMBER_DIGITS.false c.if-bytes-end.false),
)
