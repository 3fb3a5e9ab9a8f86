use Rattle.std.proofs.Common.{inl, inr, refl}
use Rattle.cap_log.proofs.Shapes.{no_version, one_digit, two_digit}
use Rattle.cap_log.proofs.parts.headers.VersionPart.take.Goals as goal

pub returns-in-Some-clause-some : goal.returns-in-Some-clause-some
returns-in-Some-clause-some c = rw one_digit (inl refl, c.in-Some.ensures.some)

pub returns-in_err-rest-clause-none : goal.returns-in_err-rest-clause-none
returns-in_err-rest-clause-none c =
    rw c.from_residual.ensures (no_version c.args.end c.args.bytes.now c.in_default.ensures.none c.in_err-rest.ensures.none)

pub returns-clause-some : goal.returns-clause-some
returns-clause-some c = rw two_digit (inr refl, c.in_ok-rest.ensures.some)
