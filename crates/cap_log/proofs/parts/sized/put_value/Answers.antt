use Rattle.std.proofs.Common.{◌≡◌, sym, ◌∙◌, arith}
use Rattle.cap_log.proofs.SizedLemmas.{last_digits}
use Rattle.cap_log.proofs.parts.sized.put_value.Goals as goal

pub returns-then-count-eq4 : goal.returns-then-count-eq4
returns-then-count-eq4 c =
    rw (sym c.bytes-count.ensures.bytes ∙ c.if-count-eq4.true)
    (rw (last_digits 16 8 c.args.value _ (omega arith) c.number_text-digits.ensures.digits) at c.put-then-count-eq4.ensures.written)

pub returns-then-count-eq2 : goal.returns-then-count-eq2
returns-then-count-eq2 c =
    rw (sym c.bytes-count.ensures.bytes ∙ c.if-count-eq2.true)
    (rw (last_digits 16 4 c.args.value _ (omega arith) c.number_text-digits.ensures.digits) at c.put-then-count-eq2.ensures.written)

pub returns-else-count-eq2 : goal.returns-else-count-eq2
returns-else-count-eq2 c =
    let one : c.args.size ≡ 1 = omega (arith, c.bytes-count.ensures.range) in
    rw one (rw (last_digits 16 2 c.args.value _ (omega arith) c.number_text-digits.ensures.digits) at c.put-else-count-eq2.ensures.written)
