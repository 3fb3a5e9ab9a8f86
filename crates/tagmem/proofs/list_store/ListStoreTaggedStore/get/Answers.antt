use Rattle.std.proofs.Common.{sym, ap}
use Rattle.tagmem.{specs.Granules.shown, proofs.Indexes.{get_in_gap, read_at}}
use Rattle.tagmem.proofs.list_store.ListStoreTaggedStore.get.Goals as goal

pub returns-in-Err : goal.returns-in-Err
returns-in-Err c = record { value = sym (ap shown (get_in_gap _ _ _ c.in-Err.ensures.absent)) }

pub returns-in-Ok : goal.returns-in-Ok
returns-in-Ok c =
    let s = c.args.self.now in
    let read = read_at s.entries.items s.rising c.args.granule c.in-Ok.index c.in-Ok.ensures.found c.index-listed.result.now c.index-listed.ensures in
    record { value = sym (ap shown read.entry_is) }
