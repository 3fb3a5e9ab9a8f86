use Rattle.std.specs.FinMap as map
use Rattle.std.proofs.Common.{◌≡◌, ◌<◌, ◌∷◌, [], ◌++◌, ◌/◌, length, set, All, refl, sym, ap, subst, ◌∙◌}
use Rattle.std.proofs.{Common.{arith}, lemmas.List.{length-map, get_or_push, get_or_append_left, Elements.All-from_get_or}}
use Rattle.tagmem.specs.{declared.{block.Block.Block}, Blocks.{contents_of}}
use Rattle.tagmem.specs.{Blocks.{numbers_of}, Directories.{blocks_of, blocks_with, there_in}, Granules.with_write, Trees.AreTrees}
use Rattle.tagmem.proofs.Writes.{IsAdded, numbers_of-add, length-add, AreDistinct-add, ArePaged-add, ArePaged-has, contents_of-add}
use Rattle.tagmem.proofs.{Writes.{AreStored-add, len-add}, Blocks.get_absent, Indexes.OnErr-from, NextPut.none_in_page}
use Rattle.tagmem.proofs.{Rooms.is_room, Ways.AreTrees-alike}
use Rattle.tagmem.proofs.page_store.PageStore.add_block.Goals.{In-Ok, After-put}
use Rattle.tagmem.proofs.page_store.PageStore.add_block.Goals as goal

-- nothing was put in a page that is refused
pub returns-in_err-make_room-clause-in_page : goal.returns-in_err-make_room-clause-in_page
returns-in_err-make_room-clause-in_page c =
    let s = c.args.self.now in
    OnErr-from _ _ (none_in_page s.blocks.items (there_in s.directory) s.paged (c.args.granule / 256)
    (sym c.has-there.ensures ∙ c.in_err-make_room.ensures.only_new))

pub returns-in_default-clause-in_page : goal.returns-in_default-clause-in_page
returns-in_default-clause-in_page c =
    let s = c.args.self.now in
    none_in_page s.blocks.items (there_in s.directory) s.paged (c.args.granule / 256) (sym c.has-there.ensures ∙ c.in_default.ensures.only_new)

pub insert-requires-clause-region : goal.insert-requires-clause-region
insert-requires-clause-region c = rw c.make_room.ensures.directory c.region_at-region.ensures

-- there is room for one more in the pages that are there then
one_more : (c : In-Ok) → length c.make_room.new.self.blocks.items < blocks_of c.insert.new.self
one_more c =
    let m = c.make_room.new.self in
    let with = c.in-Ok.ensures.ok in
    is_room m.blocks.items (there_in c.insert.new.self) c.insert.new.self.count c.insert.new.self.counted m.distinct
    (ArePaged-has m.blocks.items (there_in m.directory) (there_in c.insert.new.self) (c.args.granule / 256) with m.paged)
    (c.args.granule / 8) (grind (arith, with.0)) (rw c.make_room.ensures.blocks c.requires.absent)

more : (c : In-Ok) → blocks_of c.insert.new.self ≡ blocks_with c.args.self.now.directory c.has-there.result
more c = c.in-Ok.ensures.blocks ∙ ap (λ d. blocks_with d c.has-there.result) c.make_room.ensures.directory

pub push_reserved-requires : goal.push_reserved-requires
push_reserved-requires c =
    let m = c.make_room.new.self in
    let after = (goal.at.push_reserved-requires c).In-Ok in
    omega (arith, one_more after, more after, m.blocks.ok.0, c.in_ok-make_room.ensures.room)

pub overflow_add-self : goal.overflow_add-self
overflow_add-self c =
    let s = c.args.self.now in
    omega (arith, s.counted, c.make_room.ensures.count, c.requires.room (get_absent s.blocks.items c.args.granule c.requires.absent))

-- there is a block more, of which no granule was put, and then it has a write
added : (c : After-put) → IsAdded c.make_room.new.self.blocks.items
    c.len-index.result c.args.granule c.new.result c.put.new.self c.args.tag c.args.byte_index c.args.bytes.now c.args.code
added c =
    let m = c.make_room.new.self in
    let last : c.len-index.result ≡ length m.blocks.items =
    omega (arith, c.args.self.now.blocks.ok.0, c.len-index.ensures, ap length c.make_room.ensures.blocks) in
    let pushed = get_or_push m.blocks.items c.new.result c.index_mut.result.now c.len-index.result in
    let read : c.index_mut.result.now ≡ c.new.result =
    grind (arith, last, c.index_mut.ensures.value, c.push_reserved.ensures.items, pushed) in
    record {
      known = m.distinct;
      absent = rw c.make_room.ensures.blocks c.requires.absent;
      number = c.new.ensures.number;
      none = c.new.ensures.slots;
      last = last;
      written = rw (← read) (record { number = c.put.ensures.number; slots = c.put.ensures.slots });
    }

pub push-requires : goal.push-requires
push-requires c =
    let s = c.args.self.now in
    let m = c.make_room.new.self in
    let after = (goal.at.push-requires c).In-Ok in
    let is = added (goal.at.push-requires c).After-put in
    let room = c.requires.room (get_absent s.blocks.items c.args.granule c.requires.absent) in
    let long = length-add _ _ _ _ _ _ _ _ _ is in
    let new = set (m.blocks.items ++ c.new.result ∷ []) c.len-index.result c.put.new.self in
    let seen : c.deref.result.now ≡ new = c.deref.ensures.value ∙ ap (λ items. set items c.len-index.result c.put.new.self)
    c.push_reserved.ensures.items in
    record {
      room = rw (seen, long) (record {
        links = omega (arith, one_more after, more after, c.in_ok-make_room.ensures.room, m.linkable.links);
        roots = λ some. m.linkable.roots (omega (arith, one_more after, more after, c.in_ok-make_room.ensures.room));
      });
      fits = rw (seen, long) (omega (arith, ap length c.make_room.ensures.blocks, s.few, room));
      as_many = rw (seen, long) (omega (arith, m.as_many));
      trees = λ limit is_limit.
          let limit_is : length m.blocks.items ≡ limit = omega (arith, long, ap length seen, is_limit) in
          rw seen (subst (λ n. AreTrees (numbers_of new) m.trees.mask n m.trees.roots.items m.trees.links.items) limit_is
          (AreTrees-alike (numbers_of m.blocks.items) (numbers_of new) m.trees.mask (length m.blocks.items) m.trees.roots.items
          m.trees.links.items m.trees.links.items (λ i lt. rw (numbers_of-add _ _ _ _ _ _ _ _ _ is) (get_or_append_left (numbers_of m.blocks.items)
          ((c.args.granule / 8) ∷ []) 0 i (omega (arith, length-map m.blocks.items (λ (b : Block). b.number))))) (λ place. refl) m.found));
    }

pub returns-clause-ok : goal.returns-clause-ok
returns-clause-ok c =
    ap (λ items. contents_of (set items c.len-index.result c.put.new.self)) c.push_reserved.ensures.items
    ∙ contents_of-add _ _ _ _ _ _ _ _ _ (added (goal.at.returns-clause-ok c).After-put)
    ∙ ap (λ blocks. with_write (contents_of blocks) c.args.granule c.args.tag c.args.byte_index c.args.bytes.now c.args.code)
    c.make_room.ensures.blocks

pub invariant_of-self-4 : goal.invariant_of-self-4
invariant_of-self-4 c =
    let s = c.args.self.now in
    let m = c.make_room.new.self in
    let after = (goal.at.invariant_of-self-4 c).In-Ok in
    let pushed = c.push_reserved.ensures.items in
    let is = added (goal.at.invariant_of-self-4 c).After-put in
    let len = len-add _ _ _ _ _ _ _ _ _ is in
    let same = ap (λ blocks. map.len (contents_of blocks)) c.make_room.ensures.blocks in
    let room = c.requires.room (get_absent s.blocks.items c.args.granule c.requires.absent) in
    let bytes : All (λ byte. byte < 256) c.args.bytes.now =
    All-from_get_or (λ byte. byte < 256) c.args.bytes.now 0 (λ i lt. (c.type_inv.bytes i).fits) in
    record {
      as_many = rw (← c.deref.ensures.value) c.push.ensures.as_many;
      found = rw (← c.deref.ensures.value) c.push.ensures.trees;
      distinct = rw pushed (AreDistinct-add _ _ _ _ _ _ _ _ _ is);
      paged = rw pushed (ArePaged-add _ _ _ _ _ _ _ _ _ is (there_in m.directory) (there_in c.insert.new.self) c.in-Ok.ensures.ok m.paged);
      stored = rw pushed (AreStored-add _ _ _ _ _ _ _ _ _ is c.requires.in_memory c.requires.inside bytes (omega arith) c.requires.coded
          m.stored);
      counted = rw pushed (omega (arith, len, m.counted));
      roomy = omega (arith, more after, c.push_reserved.ensures.capacity, c.in_ok-make_room.ensures.room);
      linkable = c.push.ensures.kept _ (rw c.push_reserved.ensures.capacity m.linkable);
      few = rw pushed (omega (arith, len, length-add _ _ _ _ _ _ _ _ _ is, m.few));
      fits = rw pushed (omega (arith, len, same, room));
    }
