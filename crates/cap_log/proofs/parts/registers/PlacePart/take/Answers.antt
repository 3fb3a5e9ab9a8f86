use Rattle.std.proofs.Common.{subst, sym}
use Rattle.cap_log.specs.{Lines.{IsPlace, place_spelling}, Parts.BeginsWithNone}
use Rattle.cap_log.proofs.{Cuts.stripped, PartLemmas.{no_address, no_granule, no_place}}
use Rattle.cap_log.proofs.parts.registers.PlacePart.take.Goals as goal

pub returns-in_err-address-clause-none : goal.returns-in_err-address-clause-none
returns-in_err-address-clause-none c =
    let strip = c.in-Some.ensures.cases in
    rw c.from_residual.ensures (subst (BeginsWithNone IsPlace place_spelling c.args.end) (sym (stripped 64 _ _ strip.0 strip.1))
    (no_address c.args.end c.in-Some.digits.now c.in_err-address.ensures.none))

pub returns-in-Some-clause-none : goal.returns-in-Some-clause-none
returns-in-Some-clause-none c =
    let strip = c.in-Some.ensures.cases in
    subst (BeginsWithNone IsPlace place_spelling c.args.end) (sym (stripped 64 _ _ strip.0 strip.1))
    (no_granule c.args.end c.in_ok-address.address c.in-Some.digits.now c.in_ok-address.rest.now
    c.in_ok-address.ensures.some c.if-address-eq0.false)

pub returns-in_default-take-clause-none : goal.returns-in_default-take-clause-none
returns-in_default-take-clause-none c =
    no_place c.args.end c.args.bytes.now c.in_default.ensures.cases (λ n rest begins. c.in_default-take.ensures.none n rest begins)
