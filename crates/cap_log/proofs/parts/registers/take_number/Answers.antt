use Rattle.std.proofs.{Common.{arith, ap, take, sym, refl, ◌∙◌}, lemmas.List.{take_rest, take-take}}
use Rattle.cap_log.proofs.RegisterLemmas.{in_front, no_register}
use Rattle.cap_log.proofs.parts.registers.take_number.Goals as goal

pub returns-then-digit-lt10-clause-some : goal.returns-then-digit-lt10-clause-some
returns-then-digit-lt10-clause-some c =
    let bytes = c.args.bytes.now in
    let name = (c.one_digit-digit.ensures _ c.if-digit-lt10.true).0 refl in
    rw (take_rest bytes 3) (in_front 3 _ _ bytes (omega arith)
    (sym (take-take 3 4 bytes (omega arith)) ∙ ap (take 3) (sym c.in-Some.ensures.cases.0) ∙ name))

pub returns-then-number-from-clause-some : goal.returns-then-number-from-clause-some
returns-then-number-from-clause-some c =
    let name = (c.two_digits-number.ensures _ c.if-number-ge-LEAST_OF_TWO_DIGITS.true (omega arith)).0 refl in
    rw (c.in-Some.ensures.cases.1) (in_front 4 _ _ c.args.bytes.now (omega arith) (sym c.in-Some.ensures.cases.0 ∙ name))

pub returns-else-number-ge-LEAST_OF_TWO_DIGITS-clause-none : goal.returns-else-number-ge-LEAST_OF_TWO_DIGITS-clause-none
returns-else-number-ge-LEAST_OF_TWO_DIGITS-clause-none c =
    let bytes = c.args.bytes.now in
    let cut = c.in-Some.ensures.cases.0 in
    no_register c.args.end bytes
    (λ n small long e.
    let same = (c.one_digit-digit.ensures n small).1 (ap (take 3) cut ∙ take-take 3 4 bytes (omega arith) ∙ e) in omega arith)
    (λ n some few long e.
    let same = (c.two_digits-number.ensures n some few).1 (cut ∙ e) in
    grind arith)
