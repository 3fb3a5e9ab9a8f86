use Rattle.std.proofs.Common.{◌*◌, ◌+◌, ◌/◌, arith}
use Rattle.tagmem.specs.{Blocks.contents_of, Directories.there_in, Granules.NonePut}
use Rattle.tagmem.proofs.NextPut.{next_put_last, next_put_later}
use Rattle.tagmem.proofs.page_store.PageStoreTaggedStore.next_put.Goals.{In-None-first_between}
use Rattle.tagmem.proofs.page_store.PageStoreTaggedStore.next_put.Goals as goal

-- none of the rest of the page was put
rest : (c : In-None-first_between) → NonePut (contents_of c.args.self.now.blocks.items) c.args.granule (256 * (c.args.granule / 256) + 256)
rest c q le lt = grind (arith, c.in-None.ensures q, c.in-None-first_between.ensures q)

pub returns-in-Some-next : goal.returns-in-Some-next
returns-in-Some-next c = record {
  least = next_put_later c.args.self.now.blocks.items (there_in c.args.self.now.directory) c.args.self.now.paged c.args.granule
      (rest (goal.at.returns-in-Some-next c).In-None-first_between) c.in-Some-next.page c.in-Some-next.ensures.least
      c.first_between-in-Some-next.result c.first_between-in-Some-next.ensures;
}

pub returns-in-None-next : goal.returns-in-None-next
returns-in-None-next c = record {
  least = next_put_last c.args.self.now.blocks.items (there_in c.args.self.now.directory) c.args.self.now.paged c.args.granule
      (rest (goal.at.returns-in-None-next c).In-None-first_between) c.in-None-next.ensures.least;
}
