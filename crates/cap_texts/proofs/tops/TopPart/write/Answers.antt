use Rattle.std.proofs.Common.{arith}
use Rattle.cap_word.proofs.DigitLemmas.{length-hex_digits}
use Rattle.cap_texts.proofs.tops.TopPart.write.Goals as goal

pub put_hex-requires-clause-room : goal.put_hex-requires-clause-room
put_hex-requires-clause-room c = omega (arith, c.requires.room, length-hex_digits 17 (c.args.self.now).0)
