use Rattle.std.proofs.{Common.rules, lemmas.List.Sorted.answers_always}
use Rattle.tagmem.{specs.declared.list_store.Listed.Listed, proofs.ListLaws.rises_far}
use Rattle.tagmem.proofs.Indexes.{searched}
use Rattle.tagmem.proofs.list_store.ListStore.index_of.Goals as goal

-- the closure gives an entry's granule, and the slice is the store's entries
pub returns : goal.returns
returns c =
    let s = c.args.self.now in
    let facts = c.binary_search_by_key.ensures in
    let by_granule = facts.position (λ (listed : Listed). listed.granule) (answers_always _ _ _ (λ f a r g called. search rules)) in
    searched s.entries.items (rises_far s.entries.items s.rising) c.args.granule c.binary_search_by_key.result
    (rw c.deref.ensures.value at facts.bound) (rw c.deref.ensures.value at by_granule)
