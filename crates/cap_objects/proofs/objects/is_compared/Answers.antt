use Rattle.std.proofs.Common.{refl}
use Rattle.cap_objects.proofs.objects.is_compared.Goals as goal

pub returns-then-keeps : goal.returns-then-keeps
returns-then-keeps c = rw (c.if-keeps.true, c.if-object.true) refl

pub returns-else-keeps : goal.returns-else-keeps
returns-else-keeps c = rw (c.if-keeps.false, c.if-object.true) refl
