use Rattle.std.proofs.Common.{◌*◌, arith}
use Rattle.cap_word.proofs.DigitLemmas.{length-hex_digits}
use Rattle.cap_log.proofs.WriteLemmas.{room_behind, ◌⨾◌}
use Rattle.cap_log.proofs.parts.registers.PlacePart.write.Goals as goal

pub write_number-requires : goal.write_number-requires
write_number-requires c =
    let room = rw c.in-Granule.is at c.requires.room in
    room_behind _ _ 16 _ _ _ c.put-next.ensures.written (omega (arith, room, length-hex_digits 16 (16 * c.in-Granule.number)))

pub returns-in-Granule : goal.returns-in-Granule
returns-in-Granule c = record { written = rw c.in-Granule.is (c.put-next.ensures.written ⨾ c.write_number.ensures.written) }
