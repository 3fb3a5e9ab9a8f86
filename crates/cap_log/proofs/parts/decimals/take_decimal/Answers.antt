use Rattle.std.proofs.Common.{◌+◌, ◌<◌, ◌≤◌, refl, rules, arith}
use Rattle.std.proofs.lemmas.{Bool.false≢true, List.take_rest}
use Rattle.cap_log.proofs.Decimals.{front_of, number_in_front}
use Rattle.cap_log.proofs.parts.decimals.take_decimal.Goals as goal

pub returns-then-count-bytes-clause-none : goal.returns-then-count-bytes-clause-none
returns-then-count-bytes-clause-none g c = λ n rest begins.
    let is = front_of _ _ _ _ n _ rest _ _ c.requires.some c.requires.bound c.requires.small c.requires.end
    c.front_digits-value.ensures.front begins in
    omega (arith, is.before, c.if-count-bytes.true)

pub returns-then-not-is_number-clause-none : goal.returns-then-not-is_number-clause-none
returns-then-not-is_number-clause-none g c = λ n rest begins.
    let is = front_of _ _ _ _ n _ rest _ _ c.requires.some c.requires.bound c.requires.small c.requires.end
    c.front_digits-value.ensures.front begins in
    let least : g.row.LEAST ≤ c.front_digits-value.result.0 = omega (arith, is.value_is, begins.0.0) in
    let below : c.front_digits-value.result.0 < g.row.BOUND = omega (arith, is.value_is, begins.0.1) in
    absurd (false≢true (c.if-not-is_number.ensures.1 (is.some, search rules, search rules, is.lead)))

pub returns-clause-some : goal.returns-clause-some
returns-clause-some g c =
    let bytes = c.args.bytes.now in
    let count = c.front_digits-value.result.1 in
    let is = c.if-not-is_number.ensures.0 refl in
    let below : c.front_digits-value.result.0 < g.row.BOUND = search rules in
    let whole = number_in_front _ bytes _ count c.args.end c.front_digits-value.ensures.front is.0 c.if-count-bytes.false
    (search rules) (omega (arith, below, c.requires.small)) is.3 in
    ((search rules, below), rw (take_rest bytes (count + 1)) whole)
