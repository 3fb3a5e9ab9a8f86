use Rattle.std.proofs.Common.{◌≡◌, arith}
use Rattle.tagmem.{specs.{Granules.{bytes_at, overwritten}, Listed.contents_of}, proofs.ListLaws.AreStored-contents_of}
use Rattle.tagmem.proofs.Granules.{length-bytes_at, overwritten_whole}
use Rattle.tagmem_lent.specs.LentStores.{in_use}
use Rattle.tagmem_lent.proofs.lent_store.LentStoreTaggedStore.put_cap.Goals as goal

-- sixteen bytes leave none of the old
pub returns-clause-ok : goal.returns-clause-ok
returns-clause-ok c =
    let s = c.args.self.now in
    let old = contents_of (in_use s) in
    let sixteen = length-bytes_at old (AreStored-contents_of (in_use s) s.runs.stored) c.args.granule in
    let whole : overwritten (bytes_at old c.args.granule) 0 c.args.bytes ≡ c.args.bytes = overwritten_whole _ _ (omega arith) in
    rw whole at c.put.ensures.ok
