use Rattle.std.proofs.Common.{arith}
use Rattle.cap_word.proofs.DigitLemmas.{length-hex_digits}
use Rattle.cap_log.proofs.parts.hexadecimals.U64Part.write.Goals as goal

pub write_number-requires : goal.write_number-requires
write_number-requires c = omega (arith, c.requires.room, length-hex_digits 16 c.args.self.now)
