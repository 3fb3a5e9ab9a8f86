use Rattle.std.proofs.Common.{◌≡◌, ◌*◌, ◌+◌, ◌^◌, ◌%◌, arith}
use Rattle.tagmem.specs.{Blocks.contents_of}
use Rattle.tagmem.proofs.NextPut.{put_below, none_put_block, next_put_block}
use Rattle.tagmem.proofs.page_store.PageStore.first_in.Goals as goal

-- the first that was put is the block's
pub returns-in-Some-first_from : goal.returns-in-Some-first_from
returns-in-Some-first_from c =
    let s = c.args.self.now in
    let found = next_put_block s.blocks.items s.distinct c.args.number c.args.slot c.in-Some.index c.index.result.now
    c.in-Some.ensures c.index.ensures c.in-Some-first_from.first c.in-Some-first_from.ensures.small c.in-Some-first_from.ensures.first in
    let is : c.args.number * 8 % 2 ^ 64 + c.from.result ≡ 8 * c.args.number + c.in-Some-first_from.first =
    omega (arith, c.from.ensures, put_below (contents_of s.blocks.items) s.stored _ found.1) in
    rw is found

pub returns-in-None-first_from : goal.returns-in-None-first_from
returns-in-None-first_from c =
    let s = c.args.self.now in
    none_put_block s.blocks.items s.distinct c.args.number c.args.slot c.in-Some.index c.index.result.now
    c.in-Some.ensures c.index.ensures c.in-None-first_from.ensures.first
