use Rattle.std.proofs.Common.{◌≢◌, ◌<◌, ◌≤◌, ℕ}
use Rattle.tagmem.proofs.ListLaws.{granule_at}
use Rattle.tagmem_lent.specs.{Lent.run_end, LentStores.in_use}
use Rattle.tagmem_lent.proofs.lent_store.LentStore.index_of.Given as goal

abbrev pub invariant-loop-level : goal.invariant-loop-level
invariant-loop-level l = record {
  levels : l.level ≤ 8;
  none : (i : ℕ) → i < run_end l.self.used l.level → granule_at (in_use l.self) i ≢ l.granule;
}

abbrev pub decreases-loop-level : goal.decreases-loop-level
decreases-loop-level l = l.level
