use Rattle.std.proofs.Common.{ℕ, ◌*◌, arith, length-append}
use Rattle.std.proofs.lemmas.Bool.{ne_eqb}
use Rattle.cap_word.proofs.DigitLemmas.{length-hex_digits}
use Rattle.cap_log.proofs.WriteLemmas.{room_behind, ◌⨾◌}
use Rattle.cap_log.proofs.parts.sized.AccessedPart.write.Goals.{then-this-ne0, else-this-ne0}
use Rattle.cap_log.proofs.parts.sized.AccessedPart.write.Goals as goal

pub put_value-requires : goal.put_value-requires
put_value-requires g c =
    let size = rw (c.from.ensures, c.bytes.ensures.bytes, c.size-size.ensures.size) at c.put_few-next.ensures in
    let digits = length-hex_digits (2 * c.args.self.now.0.size) c.args.self.now.0.value in
    rw c.size-size.ensures.size (room_behind _ _ (2 * c.args.self.now.0.size) _ _ _ (size ⨾ c.put-digits.ensures.written)
    (elim c.if-this-ne0.branch [
      | then-this-ne0 w ↦ let room = rw (ne_eqb _ 0 w.if-this-ne0.true) at c.requires.room in
          rw w.put-is (omega (arith, room, length-append {A = ℕ}))
      | else-this-ne0 w ↦ let room = rw w.if-this-ne0.false at c.requires.room in
          rw w.put-is (omega (arith, room, length-append {A = ℕ}))
    ]))

pub returns : goal.returns
returns g c =
    let size = rw (c.from.ensures, c.bytes.ensures.bytes, c.size-size.ensures.size) at c.put_few-next.ensures in
    let value = rw (c.size-size.ensures.size, c.value.ensures.value) at c.put_value.ensures in
    let all = size ⨾ (c.put-digits.ensures.written ⨾ value) in
    record {
      written = elim c.if-this-ne0.branch [
        | then-this-ne0 w ↦ rw (ne_eqb _ 0 w.if-this-ne0.true) (rw w.put-is at all)
        | else-this-ne0 w ↦ rw w.if-this-ne0.false (rw w.put-is at all)
      ];
    }
