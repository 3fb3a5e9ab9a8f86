use Rattle.std.proofs.Common.{arith}
use Rattle.cap_log.proofs.SpellingLemmas.{feed_room, line_at}
use Rattle.cap_log.proofs.writers.write_line.Goals as goal

pub put-requires : goal.put-requires
put-requires c = feed_room c.args.line.now c.requires _ _ _ (omega arith) c.write_words-end.ensures

pub returns : goal.returns
returns c = record {
  line = line_at c.args.line.now c.requires _ _ _ _ _ (omega arith) c.write_words-end.ensures c.put.ensures.written;
}
