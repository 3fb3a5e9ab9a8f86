use Rattle.std.proofs.Common.{◌*◌}
use Rattle.tagmem.specs.{Blocks.contents_of, Granules.NonePut}
use Rattle.tagmem.proofs.page_store.PageStore.first_between.Given as goal

abbrev pub invariant-loop-next : goal.invariant-loop-next
invariant-loop-next l = NonePut (contents_of l.self.blocks.items) (8 * l.number) (8 * l.next)
