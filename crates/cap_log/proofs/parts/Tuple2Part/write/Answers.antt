use Rattle.cap_log.proofs.WriteLemmas.{◌⨾◌}
use Rattle.cap_log.proofs.parts.Tuple2Part.write.Goals as goal

pub returns : goal.returns
returns g c = record {
  written = c.write-space.ensures.written ⨾ (c.put-next.ensures.written ⨾ c.write.ensures.written);
}
