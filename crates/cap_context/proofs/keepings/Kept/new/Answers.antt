use Rattle.cap_context.proofs.KeptLemmas.{nothing_kept}
use Rattle.cap_context.proofs.keepings.Kept.new.Goals as goal

pub returns : goal.returns
returns c = record { empty = λ whole. nothing_kept c.new.result c.new-2.result.items c.new.ensures.empty c.new-2.ensures.items }
