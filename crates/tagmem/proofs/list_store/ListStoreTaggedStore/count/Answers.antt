use Rattle.std.proofs.Common.{arith}
use Rattle.tagmem.proofs.ListLaws.{len-contents_of}
use Rattle.tagmem.proofs.list_store.ListStoreTaggedStore.count.Goals as goal

pub overflow_cast-result : goal.overflow_cast-result
overflow_cast-result c =
    let s = c.args.self.now in
    omega (arith, len-contents_of s.entries.items s.rising, s.entries.ok.0, c.len.ensures, s.fits)

-- each entry is of a granule of its own
pub returns : goal.returns
returns c = record {
  value =
      let s = c.args.self.now in
      omega (arith, len-contents_of s.entries.items s.rising, s.entries.ok.0, c.len.ensures);
}
