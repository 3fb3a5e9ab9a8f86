use Rattle.std.proofs.Common.{refl}
use Rattle.cap_log.proofs.parts.results.result_mark.Goals as goal

pub returns-then-tag : goal.returns-then-tag
returns-then-tag c = rw c.if-tag.true refl

pub returns-else-tag : goal.returns-else-tag
returns-else-tag c = rw c.if-tag.false refl
