use Rattle.std.proofs.Common.{◌≡◌, arith}
use Rattle.tagmem.specs.{Blocks.contents_of, Granules.{bytes_at, overwritten}}
use Rattle.tagmem.proofs.Granules.{length-bytes_at, overwritten_whole}
use Rattle.tagmem.proofs.page_store.PageStoreTaggedStore.put_cap.Goals as goal

pub put-requires-clause-coded : goal.put-requires-clause-coded
put-requires-clause-coded c = c.requires.coded

pub returns-clause-ok : goal.returns-clause-ok
returns-clause-ok c =
    let s = c.args.self.now in
    let old = contents_of s.blocks.items in
    let sixteen = length-bytes_at old s.stored c.args.granule in
    let whole : overwritten (bytes_at old c.args.granule) 0 c.args.bytes ≡ c.args.bytes = overwritten_whole _ _ (omega arith) in
    rw whole at c.put.ensures.ok
