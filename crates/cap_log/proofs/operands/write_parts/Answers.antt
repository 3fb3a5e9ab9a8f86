use Rattle.std.proofs.Common.{ap, arith, length}
use Rattle.cap_log.proofs.SpellingLemmas.{spelling-short}
use Rattle.cap_log.proofs.operands.write_parts.Goals as goal

pub write-requires-clause-room : goal.write-requires-clause-room
write-requires-clause-room g c =
    omega (arith, spelling-short c.args.line.now c.requires.in_range, ap length c.requires.spelling)
