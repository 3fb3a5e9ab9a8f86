use Rattle.std.proofs.Common.{◌+◌}
use Rattle.tagmem_lent.proofs.Merging.{IsMerging}
use Rattle.tagmem_lent.proofs.lent_store.merge_down.Given as goal

abbrev pub invariant-loop-left : goal.invariant-loop-left
invariant-loop-left l = IsMerging l.fn.slots l.middle l.end l.slots l.left l.right

abbrev pub decreases-loop-left : goal.decreases-loop-left
decreases-loop-left l = l.left + l.right
