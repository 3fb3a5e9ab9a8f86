use Rattle.std.proofs.Common.{arith}
use Rattle.tagmem.proofs.ListLaws.{len-apart}
use Rattle.tagmem_lent.specs.LentStores.{in_use}
use Rattle.tagmem_lent.proofs.Lent.{length-entries_of}
use Rattle.tagmem_lent.proofs.lent_store.LentStoreTaggedStore.count.Goals as goal

-- each slot in use is of a granule of its own
pub returns : goal.returns
returns c = record {
  value =
      let s = c.args.self.now in
      omega (arith, len-apart (in_use s) s.runs.apart, length-entries_of s.used s.slots.now s.fits, s.counted);
}
