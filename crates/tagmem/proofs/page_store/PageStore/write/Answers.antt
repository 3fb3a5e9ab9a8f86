use Rattle.std.specs.FinMap as map
use Rattle.std.proofs.Common.{◌+◌, ◌^◌, ◌<◌, ◌%◌, All, arith, length-set}
use Rattle.std.proofs.lemmas.List.Elements.{All-from_get_or}
use mir.Val.{bool_byte}
use Rattle.tagmem.specs.{Blocks.contents_of, Directories.there_in}
use Rattle.tagmem.proofs.Writes.{IsRead, IsWritten, numbers_of-write, ArePaged-write}
use Rattle.tagmem.proofs.Writes.{contents_of-write, AreStored-write, len-write, len_fits}
use Rattle.tagmem.proofs.page_store.PageStore.write.Goals.{After-put-first}
use Rattle.tagmem.proofs.page_store.PageStore.write.Goals as goal

-- the block was read, and has a write
module _ (c : After-put-first) where
  read : IsRead c.args.self.now.blocks.items c.args.index c.args.granule c.index_mut-block.result.now
  read = record { known = c.args.self.now.distinct; found = c.requires.found; is = c.index_mut-block.ensures.value }

  written : IsWritten c.index_mut-block.result.now c.put-first.new.self (c.args.granule % 8) c.args.tag c.args.byte_index c.args.bytes.now c.args.code
  written = record { number = c.put-first.ensures.number; slots = c.put-first.ensures.slots }

  fits : map.len (contents_of c.args.self.now.blocks.items) + bool_byte c.put-first.result < 2 ^ 32
  fits = rw c.put-first.ensures.first
      (len_fits c.args.self.now.blocks.items c.args.index c.args.granule _ read c.args.self.now.fits c.requires.room)

pub overflow_add-self : goal.overflow_add-self
overflow_add-self c = omega (arith, fits (goal.at.overflow_add-self c).After-put-first, c.from.ensures, c.args.self.now.counted)

pub returns : goal.returns
returns c =
    let after = (goal.at.returns c).After-put-first in
    contents_of-write _ _ _ _ (read after) _ _ _ _ _ (written after)

pub invariant_of-self : goal.invariant_of-self
invariant_of-self c =
    let s = c.args.self.now in
    let after = (goal.at.invariant_of-self c).After-put-first in
    let long = length-set s.blocks.items c.args.index c.put-first.new.self in
    let numbers = numbers_of-write _ _ _ _ (read after) _ _ _ _ _ (written after) in
    let len = rw (← c.put-first.ensures.first) at (len-write _ _ _ _ (read after) _ _ _ _ _ (written after)) in
    let bytes : All (λ byte. byte < 256) c.args.bytes.now =
    All-from_get_or (λ byte. byte < 256) c.args.bytes.now 0 (λ i lt. (c.type_inv.bytes i).fits) in
    record {
      as_many = omega (arith, s.as_many, long);
      found = rw (numbers, long) s.found;
      distinct = rw numbers s.distinct;
      paged = ArePaged-write _ _ _ _ (read after) _ _ _ _ _ (written after) (there_in s.directory) s.paged;
      stored = AreStored-write _ _ _ _ (read after) _ _ _ _ _ (written after)
          c.requires.in_memory c.requires.inside bytes (omega arith) c.requires.coded s.stored;
      counted = omega (arith, len, c.from.ensures, s.counted);
      roomy = s.roomy;
      linkable = s.linkable;
      few = omega (arith, len, long, s.few);
      fits = omega (arith, len, fits after);
    }
