use Rattle.std.proofs.Common.{◌≤◌}
use Rattle.tagmem_lent.specs.{Lent.{IsNextIn, run_end}, LentStores.in_use}
use Rattle.tagmem_lent.proofs.lent_store.LentStoreTaggedStore.next_put.Given as goal

abbrev pub invariant-loop-level : goal.invariant-loop-level
invariant-loop-level l = record {
  levels : l.level ≤ 8;
  least : IsNextIn (in_use l.self) 0 (run_end l.self.used l.level) l.granule l.least;
}

abbrev pub decreases-loop-level : goal.decreases-loop-level
decreases-loop-level l = l.level
