use Rattle.std.proofs.{Common.{arith, length, sym, ◌<◌, ◌∙◌}, lemmas.List.{take_more}}
use Rattle.cap_log.proofs.RegisterLemmas.{no_register}
use Rattle.cap_log.proofs.parts.registers.take_last.Goals as goal

pub returns-in_default-clause-none : goal.returns-in_default-clause-none
returns-in_default-clause-none c =
    no_register c.args.end c.args.bytes.now (λ n small long e. grind arith) (λ n some few long e. omega arith)

pub returns-else-digit-lt10-clause-none : goal.returns-else-digit-lt10-clause-none
returns-else-digit-lt10-clause-none c =
    let bytes = c.args.bytes.now in
    no_register c.args.end bytes (λ n small long e.
    let first : 0 < length bytes = omega arith in
    let second : 1 < length bytes = omega arith in
    let three = take_more bytes 2 0 long in
    let same = (c.one_digit-digit.ensures n small).1 (sym (rw (take_more bytes 1 0 second, take_more bytes 0 0 first) at three) ∙ e) in
    omega (arith, same, c.if-digit-lt10.false)) (λ n some few long e. omega arith)
