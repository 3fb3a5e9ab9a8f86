use Rattle.std.specs.{BTreeMap.is_at, List.list_any}
use Rattle.std.specs.BTreeMap as tree
use Rattle.std.specs.BTreeSet as set
use Rattle.std.proofs.{Common.{inl, inr, sym, ap, ◌∙◌, nat_cmp, ◌≢◌}, lemmas.Option.none-some}
use Rattle.cap_heap.specs.{Heaps.objects_in, Kept.length_from}
use Rattle.cap_heap.proofs.{Keeping.{either, with_empty, not_equal, not_kept}, Objects.{IsApart-with, IsApart-same}}
use Rattle.cap_heap.proofs.heap.Heap.keep_empty.Goals as goal

pub invariant_of-self-clause-apart : goal.invariant_of-self-clause-apart
invariant_of-self-clause-apart c =
    let s = c.args.self.now in
    let at = c.args.address in
    elim (either c.insert.result c.insert.ensures.updates c.insert.ensures.err) [
      | inl updates ↦ IsApart-with s.bounds (objects_in s) _ at 0 s.apart c.requires
          (with_empty (tree.get nat_cmp s.lengths) (set.contains nat_cmp s.empty) (set.contains nat_cmp c.insert.new.self) at c.requires.fresh
          updates.1 (λ q differ. updates.2 q (not_equal at q differ)))
      | inr same ↦ IsApart-same s.bounds (objects_in s) _ s.apart
          (λ other. ap (λ keys. length_from (tree.get nat_cmp s.lengths other) (list_any (is_at (nat_cmp other)) keys)) same)
    ]

pub invariant_of-self-clause-once : goal.invariant_of-self-clause-once
invariant_of-self-clause-once c other length is =
    let s = c.args.self.now in
    let at = c.args.address in
    let elsewhere : at ≢ other = λ same.
    none-some length (sym (not_kept _ _ c.requires.fresh).0 ∙ ap (tree.get nat_cmp s.lengths) same ∙ is) in
    elim (either c.insert.result c.insert.ensures.updates c.insert.ensures.err) [
      | inl updates ↦ updates.2 other (not_equal at other elsewhere) ∙ s.once other length is
      | inr same ↦ ap (list_any (is_at (nat_cmp other))) same ∙ s.once other length is
    ]
