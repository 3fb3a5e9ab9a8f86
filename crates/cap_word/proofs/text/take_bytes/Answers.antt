use Rattle.std.proofs.Common.{◌*◌, take, length, ap, ◌∙◌, arith, length-append}
use Rattle.cap_word.specs.Digits.{hex_digits}
use Rattle.cap_word.proofs.{DigitLemmas.length-hex_digits, ReadingLemmas.take-hex_digits}
use Rattle.cap_word.proofs.text.take_bytes.Goals as goal

pub returns-then-bytes-count-clause-none : goal.returns-then-bytes-count-clause-none
returns-then-bytes-count-clause-none c n rest small e =
    let long = ap length e in
    omega (arith, long, length-append (hex_digits (2 * c.args.size) n) rest, length-hex_digits (2 * c.args.size) n)

pub returns-in_err-number-clause-none : goal.returns-in_err-number-clause-none
returns-in_err-number-clause-none c = rw c.from_residual.ensures (λ n rest small e.
    c.in_err-number.ensures.none n small (ap (take (2 * c.args.size)) e ∙ take-hex_digits (2 * c.args.size) n rest))
