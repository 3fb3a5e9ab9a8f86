use Rattle.std.proofs.{Common.{◌<◌, length, arith}, lemmas.Bool.Decides.nat_tests}
use Rattle.tagmem.proofs.Indexes.{next_put_gap}
use Rattle.tagmem.proofs.list_store.ListStoreTaggedStore.next_put.Goals as goal

pub returns-in-Some : goal.returns-in-Some
returns-in-Some c = record {
  least =
      let s = c.args.self.now in
      let lookup = rw c.deref.ensures.value at c.in-Some.ensures.lookup in
      let lt : c.in-Err.index < length s.entries.items = grind (arith, nat_tests, lookup.0) in
      next_put_gap s.entries.items c.args.granule c.in-Err.index c.in-Err.ensures.absent s.rising c.in-Some.listed.now lt lookup.1;
}
