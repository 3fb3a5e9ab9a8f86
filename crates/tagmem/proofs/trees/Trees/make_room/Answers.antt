use Rattle.std.proofs.{Common.{◌≡◌, ℕ, eqb-true, get_or, vec_len, sym, arith}, Math.ListN.get_or-eq_default}
use Rattle.tagmem.proofs.Ways.{leads_nowhere}
use Rattle.tagmem.proofs.trees.Trees.make_room.Goals as goal

pub returns-then-is_empty-clause-trees : goal.returns-then-is_empty-clause-trees
returns-then-is_empty-clause-trees c = λ numbers many trees.
    let s = c.args.self.now in
    let empty : vec_len c.make_room-2.new.list ≡ 0 = eqb-true _ _ (sym c.if-is_empty.ensures) in
    let none : (place : ℕ) → get_or s.roots.items place 0 ≡ 0 =
    λ place. get_or-eq_default s.roots.items 0 (omega (arith, empty, c.make_room-2.ensures.len, s.roots.ok.0)) in
    rw (c.clear.ensures.links, c.make_room.ensures.items) (record {
      forward = trees.forward;
      rooted = λ place. omega (arith, c.clear.ensures.none place);
      leads = λ index lt. absurd (leads_nowhere s.links.items _ _ index (none _) (trees.leads index lt));
    })
