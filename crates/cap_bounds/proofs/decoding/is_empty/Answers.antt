use Rattle.cap_bounds.proofs.Decoded.{empty_is}
use Rattle.cap_bounds.proofs.decoding.is_empty.Goals as goal

pub returns : goal.returns
returns c = record { value = empty_is c.args.word.0 c.scale_of.result.span c.scale_of.ensures.span }
