use Rattle.cap_ops.proofs.NarrowingLemmas.{set_bounds_result-made}
use Rattle.cap_ops.proofs.narrowing.narrowed.Goals as goal

pub returns : goal.returns
returns c = set_bounds_result-made c.args.source c.with_bounds.result.0 c.args.length _ _ _ _ _ c.address.ensures.value
    c.rounding_of-rounded.ensures.fields c.with_bounds.ensures.word
