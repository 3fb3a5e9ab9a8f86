use Rattle.tagmem.proofs.list_store.ListStoreTaggedStore.put_bytes.Goals as goal

pub returns-clause-ok : goal.returns-clause-ok
returns-clause-ok c = c.put.ensures.ok
