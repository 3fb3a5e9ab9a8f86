use Rattle.std.proofs.Common.{arith}
use Rattle.cap_log.proofs.SpellingLemmas.{feed_room, line_at}
use Rattle.cap_log.proofs.writers.write_step.Goals as goal

pub put-requires : goal.put-requires
put-requires g c = feed_room _ c.in_range.ensures.range _ _ _ (omega arith) c.write-words.ensures.written

pub returns : goal.returns
returns g c = record {
  line = line_at _ c.in_range.ensures.range _ _ _ _ _ (omega arith) c.write-words.ensures.written c.put.ensures.written;
}
