use Rattle.std.specs.{Int.from_le_bytes}
use Rattle.std.proofs.Common.{ap, length, ◌∙◌, arith, w16}
use Rattle.std.proofs.lemmas.{Fmt.decimal_digit}
use Rattle.cap_log.proofs.SizedLemmas.{by_two}
use Rattle.cap_log.proofs.parts.offsets.take_digit.Goals as goal

pub returns-in_err-front-clause-none : goal.returns-in_err-front-clause-none
returns-in_err-front-clause-none c = rw c.from_residual.ensures (λ n rest begins.
    omega (arith, ap length (rw (decimal_digit n begins.0) at begins.1), c.in_err-front.ensures.cases))

pub returns-then-digit-lt10-clause-some : goal.returns-then-digit-lt10-clause-some
returns-then-digit-lt10-clause-some c =
    let cut = c.in_ok-front.ensures.cases in
    let least = c.from_le_bytes.ensures in
    let told = by_two c.args.bytes.now c.from_le_bytes-word.result c.args.end _ c.type_inv.bytes (omega arith)
    (c.from_le_bytes-word.ensures ∙ ap (from_le_bytes w16) cut.0) (omega arith) c.if-digit-lt10.true in
    (c.if-digit-lt10.true, rw cut.1 (told.0 (omega arith) (omega arith)))

pub returns-else-digit-lt10-clause-none : goal.returns-else-digit-lt10-clause-none
returns-else-digit-lt10-clause-none c n rest begins =
    let least = c.from_le_bytes.ensures in
    let told = by_two c.args.bytes.now c.from_le_bytes-word.result c.args.end n c.type_inv.bytes (omega arith)
    (c.from_le_bytes-word.ensures ∙ ap (from_le_bytes w16) c.in_ok-front.ensures.cases.0) (omega arith) begins.0 in
    omega (arith, told.1 rest begins.1, c.if-digit-lt10.false, begins.0)
