use Rattle.std.proofs.Common.{◌∙◌, ap, sym}
use Rattle.tagmem.{specs.Granules.shown, proofs.Blocks.get_read}
use Rattle.tagmem.proofs.page_store.PageStoreTaggedStore.get.Goals as goal

pub returns-in-Some : goal.returns-in-Some
returns-in-Some c =
    let s = c.args.self.now in
    let read = get_read s.blocks.items s.distinct c.args.granule c.in-Some.index c.index.result.now c.in-Some.ensures c.index.ensures in
    record { value = c.get.ensures ∙ sym (ap shown read) }
