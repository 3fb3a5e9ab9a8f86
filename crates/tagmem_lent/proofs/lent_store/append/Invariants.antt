use Rattle.std.proofs.Common.{set}
use Rattle.tagmem_lent.proofs.Joining.{IsJoining}
use Rattle.tagmem_lent.proofs.lent_store.append.Given as goal

abbrev pub invariant-loop-level : goal.invariant-loop-level
invariant-loop-level l = IsJoining (set l.fn.slots l.used l.fn.slot) l.used l.slots l.level l.start
