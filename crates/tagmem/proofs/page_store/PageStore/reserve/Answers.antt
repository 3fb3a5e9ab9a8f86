use Rattle.std.proofs.{Common.{ℕ, length, ap, ◌∙◌, ◌<◌, ◌≤◌, arith, inl, inr}, lemmas.Bool.cases_lt}
use Rattle.tagmem.specs.{Blocks.numbers_of, Directories.HasRoomFor, declared.trees.Trees.Trees}
use Rattle.tagmem.proofs.page_store.PageStore.reserve.Goals as goal

-- trees have room for a number of blocks between two for which they have
between : (trees : Trees) (old new many : ℕ) → (old < new → new ≤ many) → HasRoomFor trees old → HasRoomFor trees many → HasRoomFor trees new
between trees old new many most low high =
    elim (cases_lt old new) [
      | inl lt ↦ record { links = omega (arith, most lt, high.links); roots = λ some. high.roots (omega (arith, some, most lt)) }
      | inr le ↦ record { links = omega (arith, le, low.links); roots = λ some. low.roots (omega (arith, some, le)) }
    ]

-- what is kept is what it was
pub invariant_of-self : goal.invariant_of-self
invariant_of-self c =
    let s = c.args.self.now in
    record {
      as_many = ap length c.make_room.ensures.links ∙ s.as_many;
      found = c.make_room.ensures.trees (numbers_of s.blocks.items) _ s.found;
      distinct = s.distinct;
      paged = s.paged;
      stored = s.stored;
      counted = s.counted;
      roomy = s.roomy;
      linkable = c.make_room.ensures.kept _ s.linkable;
      few = s.few;
      fits = s.fits;
    }

pub invariant_of-self-in-Ok : goal.invariant_of-self-in-Ok
invariant_of-self-in-Ok c =
    let s = c.args.self.now in
    let same = c.make_room-2.ensures.items in
    let trees = c.make_room.ensures in
    record {
      as_many = rw same (ap length trees.links ∙ s.as_many);
      found = rw same (trees.trees (numbers_of s.blocks.items) _ s.found);
      distinct = rw same s.distinct;
      paged = rw same s.paged;
      stored = rw same s.stored;
      counted = rw same s.counted;
      roomy = omega (arith, s.roomy, c.make_room-2.ensures.capacity);
      linkable = between _ _ _ c.args.many c.make_room-2.ensures.most (trees.kept _ s.linkable) c.in_ok-make_room.ensures.ok;
      few = rw same s.few;
      fits = rw same s.fits;
    }

pub invariant_of-self-in-Err : goal.invariant_of-self-in-Err
invariant_of-self-in-Err c =
    let s = c.args.self.now in
    let same = c.make_room-2.ensures.items in
    let shrunk = c.shrink_to.ensures in
    record {
      as_many = rw (same, shrunk.links) (ap length c.make_room.ensures.links ∙ s.as_many);
      found = rw (same, shrunk.links, shrunk.roots, shrunk.mask) (c.make_room.ensures.trees (numbers_of s.blocks.items) _ s.found);
      distinct = rw same s.distinct;
      paged = rw same s.paged;
      stored = rw same s.stored;
      counted = rw same s.counted;
      roomy = omega (arith, s.roomy, c.make_room-2.ensures.capacity);
      linkable = rw c.in-Err.ensures.refused (shrunk.kept _ (omega (arith, c.capacity-capacity.ensures)) (c.make_room.ensures.kept _ s.linkable));
      few = rw same s.few;
      fits = rw same s.fits;
    }
