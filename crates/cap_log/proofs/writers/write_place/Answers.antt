use Rattle.std.proofs.Common.{arith}
use Rattle.cap_log.proofs.PartLemmas.{place-operand}
use Rattle.cap_log.proofs.writers.write_place.Goals as goal

pub write-requires-clause-room : goal.write-requires-clause-room
write-requires-clause-room c = let short = place-operand.short c.args.place.now c.requires in omega arith
