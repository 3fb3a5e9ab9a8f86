use Rattle.cap_log.proofs.TakeLemmas.{both, no_first, no_second}
use Rattle.cap_log.proofs.parts.Tuple2Part.take.Goals as goal

pub returns-in_err-first-clause-none : goal.returns-in_err-first-clause-none
returns-in_err-first-clause-none g c =
    rw c.from_residual.ensures (no_first g.A.Part.fits g.A.Part.spelled g.B.Part.fits g.B.Part.spelled c.args.end
    c.args.bytes.now c.in_err-first.ensures.none)

pub returns-in_err-second-clause-none : goal.returns-in_err-second-clause-none
returns-in_err-second-clause-none g c =
    rw c.from_residual-in_err-second.ensures (no_second g.A.Part.fits g.A.Part.spelled g.B.Part.fits g.B.Part.spelled c.args.end
    c.args.bytes.now g.met.A.Single.spaceless c.in_ok-first.first c.in_ok-first.rest.now c.in_ok-first.ensures.some
    c.in_err-second.ensures.none)

pub returns-clause-some : goal.returns-clause-some
returns-clause-some g c =
    both g.A.Part.fits g.A.Part.spelled g.B.Part.fits g.B.Part.spelled c.args.end c.args.bytes.now
    c.in_ok-first.first c.in_ok-second.second c.in_ok-first.rest.now c.in_ok-second.rest.now
    c.in_ok-first.ensures.some c.in_ok-second.ensures.some
