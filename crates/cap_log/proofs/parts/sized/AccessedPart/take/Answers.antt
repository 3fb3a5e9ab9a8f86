use Rattle.cap_log.proofs.SizedLemmas.{accessed_cut, no_accessed}
use Rattle.cap_log.proofs.parts.sized.AccessedPart.take.Goals as goal

pub returns-in_err-count-clause-none : goal.returns-in_err-count-clause-none
returns-in_err-count-clause-none g c = rw c.from_residual.ensures (λ a rest begins. c.in_err-count.ensures.none a.0.size _
    (accessed_cut _ a.0 c.args.end c.args.bytes.now rest begins.0 begins.1))

pub returns-in_err-value-clause-none : goal.returns-in_err-value-clause-none
returns-in_err-value-clause-none g c = rw c.from_residual-in_err-value.ensures (λ a rest begins.
    no_accessed _ a.0 _ c.args.end c.args.bytes.now _ rest c.in_ok-count.ensures.some c.in_err-value.ensures.none begins.0 begins.1)
