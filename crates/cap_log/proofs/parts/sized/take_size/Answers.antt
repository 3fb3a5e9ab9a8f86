use Rattle.std.specs.{Int.from_le_bytes}
use Rattle.std.proofs.Common.{ℕ, ◌<◌, length, ap, arith, subst, sym, ◌∙◌, w16, w32}
use Rattle.std.proofs.lemmas.{Bool.ne_eqb, Fmt.decimal_digit}
use Rattle.cap_log.specs.Ranges.{IsDataSize}
use Rattle.cap_log.proofs.{PartLemmas.size-small, SizedLemmas.{by_four, by_two}}
use Rattle.cap_log.proofs.parts.sized.take_size.Goals as goal

few : (n : ℕ) → IsDataSize n → n < 10
few n fits = omega (arith, size-small n fits)

pub returns-in_err-front-clause-none : goal.returns-in_err-front-clause-none
returns-in_err-front-clause-none g c = rw c.from_residual.ensures (λ n rest begins.
    let whole = rw (decimal_digit n (few n begins.0), ne_eqb _ 0 c.if-this-ne0.true) at begins.1 in
    omega (arith, ap length whole, c.in_err-front.ensures.cases))

pub returns-in_err-front-2-clause-none : goal.returns-in_err-front-2-clause-none
returns-in_err-front-2-clause-none g c = rw c.from_residual-in_err-front-2.ensures (λ n rest begins.
    let whole = rw (decimal_digit n (few n begins.0), c.if-this-ne0.false) at begins.1 in
    omega (arith, ap length whole, c.in_err-front-2.ensures.cases))

pub returns-in_err-size-clause-none : goal.returns-in_err-size-clause-none
returns-in_err-size-clause-none g c = rw c.from_residual-in_err-size.ensures (λ n rest begins.
    let least = c.from_le_bytes-then-this-ne0.ensures in
    let told = by_four c.args.bytes.now c.from_le_bytes.result n c.type_inv.bytes (omega arith)
    (c.from_le_bytes.ensures ∙ ap (from_le_bytes w32) c.in_ok-front.ensures.cases.0) (few n begins.0) in
    let is = told.1 rest (rw (ne_eqb _ 0 c.if-this-ne0.true) at begins.1) in
    c.in_err-size.ensures.size (subst IsDataSize (sym (omega (arith, c.from.ensures))) begins.0))

pub returns-in_err-size-2-clause-none : goal.returns-in_err-size-2-clause-none
returns-in_err-size-2-clause-none g c = rw c.from_residual-in_err-size-2.ensures (λ n rest begins.
    let least = c.from_le_bytes-else-this-ne0-2.ensures in
    let told = by_two c.args.bytes.now c.from_le_bytes-else-this-ne0.result 32 n c.type_inv.bytes (omega arith)
    (c.from_le_bytes-else-this-ne0.ensures ∙ ap (from_le_bytes w16) c.in_ok-front-2.ensures.cases.0) (omega arith) (few n begins.0) in
    let is = told.1 rest (rw c.if-this-ne0.false at begins.1) in
    c.in_err-size-2.ensures.size (subst IsDataSize (sym (omega (arith, c.from-else-this-ne0.ensures))) begins.0))

pub returns-in_ok-size-clause-some : goal.returns-in_ok-size-clause-some
returns-in_ok-size-clause-some g c =
    let cut = c.in_ok-front.ensures.cases in
    let fits = subst IsDataSize (sym c.bytes.ensures.bytes) c.bytes.ensures.range in
    let least = c.from_le_bytes-then-this-ne0.ensures in
    let is = c.bytes.ensures.bytes ∙ c.in_ok-size.ensures.size.1 ∙ c.from.ensures in
    let told = by_four c.args.bytes.now c.from_le_bytes.result c.bytes.result c.type_inv.bytes (omega arith)
    (c.from_le_bytes.ensures ∙ ap (from_le_bytes w32) cut.0) (few _ fits) in
    (fits, rw (ne_eqb _ 0 c.if-this-ne0.true, cut.1) (told.0 (omega arith) (omega (arith, is))))

pub returns-in_ok-size-2-clause-some : goal.returns-in_ok-size-2-clause-some
returns-in_ok-size-2-clause-some g c =
    let cut = c.in_ok-front-2.ensures.cases in
    let fits = subst IsDataSize (sym c.bytes-else-this-ne0.ensures.bytes) c.bytes-else-this-ne0.ensures.range in
    let least = c.from_le_bytes-else-this-ne0-2.ensures in
    let is = c.bytes-else-this-ne0.ensures.bytes ∙ c.in_ok-size-2.ensures.size.1 ∙ c.from-else-this-ne0.ensures in
    let told = by_two c.args.bytes.now c.from_le_bytes-else-this-ne0.result 32 c.bytes-else-this-ne0.result c.type_inv.bytes (omega arith)
    (c.from_le_bytes-else-this-ne0.ensures ∙ ap (from_le_bytes w16) cut.0) (omega arith) (few _ fits) in
    (fits, rw (c.if-this-ne0.false, cut.1) (told.0 (omega arith) (omega (arith, is))))
