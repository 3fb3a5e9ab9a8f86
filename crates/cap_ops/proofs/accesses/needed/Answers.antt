use Rattle.std.proofs.Common.{ap, inl, inr, sym}
use Rattle.cap_ops.specs.Accesses.{permission_for}
use Rattle.cap_ops.proofs.accesses.needed.Goals as goal

pub returns-in-StoreData-clause-value : goal.returns-in-StoreData-clause-value
returns-in-StoreData-clause-value c = elim c.in-StoreData.is [ inl is ↦ sym (ap permission_for is) | inr some ↦ sym (ap permission_for some.1) ]
