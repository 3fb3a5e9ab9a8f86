use Rattle.std.proofs.Common.{unwrap_or, sym, ap}
use Rattle.tagmem.{specs.Granules.blank, proofs.Indexes.{get_in_gap, read_at}}
use Rattle.tagmem.proofs.list_store.ListStoreTaggedStore.code.Goals as goal

pub returns-in-Err : goal.returns-in-Err
returns-in-Err c = record { value = sym (ap (λ o. (unwrap_or o blank).2) (get_in_gap _ _ _ c.in-Err.ensures.absent)) }

pub returns-in-Ok : goal.returns-in-Ok
returns-in-Ok c =
    let s = c.args.self.now in
    let read = read_at s.entries.items s.rising c.args.granule c.in-Ok.index c.in-Ok.ensures.found c.index.result.now c.index.ensures in
    record { value = sym (ap (λ o. (unwrap_or o blank).2) read.entry_is) }
