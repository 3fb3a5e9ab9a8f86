use Rattle.std.proofs.Common.{sym, ◌∙◌}
use Rattle.tagmem.proofs.Ways.{leads_from_root, leads_nowhere}
use Rattle.tagmem.proofs.page_store.PageStore.index_of.Goals.{After-root-link}
use Rattle.tagmem.proofs.page_store.PageStore.index_of.Goals as goal

-- where the place has no root
pub returns-then-link-eq0 : goal.returns-then-link-eq0
returns-then-link-eq0 c = λ i lt is.
    let s = c.args.self.now in
    leads_nowhere s.trees.links.items c.args.number _ i (sym c.root-link.ensures ∙ c.if-link-eq0.true)
    (leads_from_root s.blocks.items s.trees.mask s.trees.roots.items s.trees.links.items s.found c.args.number i
    (record { in_range = lt; has_number = is }))
