use Rattle.std.proofs.Common.{refl}
use Rattle.cap_objects.proofs.objects.Object.is_present.Goals as goal

pub returns-then-not-self : goal.returns-then-not-self
returns-then-not-self c = record { value = rw c.if-not-self.true refl }

pub returns-else-not-self : goal.returns-else-not-self
returns-else-not-self c = record { value = rw c.if-not-self.false refl }
