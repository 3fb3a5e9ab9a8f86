use Rattle.cap_log.proofs.WriteLemmas.{◌⨾◌}
use Rattle.cap_log.proofs.parts.results.CapPart.write.Goals as goal

pub returns-then-self : goal.returns-then-self
returns-then-self c =
    let word = rw c.word_text.ensures.digits at c.put.ensures.written in
    record { written = rw c.if-self.true (c.put-digits.ensures.written ⨾ word) }

pub returns-else-self : goal.returns-else-self
returns-else-self c =
    let word = rw c.word_text-else-self.ensures.digits at c.put-else-self.ensures.written in
    record { written = rw c.if-self.false (c.put-digits-else-self.ensures.written ⨾ word) }
