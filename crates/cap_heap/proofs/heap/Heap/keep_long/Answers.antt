use Rattle.std.specs.{BTreeMap.is_at, Map.lookup}
use Rattle.std.specs.BTreeMap as tree
use Rattle.std.specs.BTreeSet as set
use Rattle.std.proofs.Common.{inl, inr, sym, ap, ◌∙◌, arith, nat_cmp}
use Rattle.cap_bounds.specs.Rounding.{rounded_base}
use Rattle.cap_heap.specs.{Heaps.objects_in, Kept.length_from}
use Rattle.cap_heap.proofs.Keeping.{either, with_long, not_equal, not_kept, new_or_before}
use Rattle.cap_heap.proofs.Objects.{IsApart-with, IsApart-same}
use Rattle.cap_heap.proofs.heap.Heap.keep_long.Goals as goal

pub invariant_of-self-clause-apart : goal.invariant_of-self-clause-apart
invariant_of-self-clause-apart c =
    let s = c.args.self.now in
    let at = c.args.address in
    elim (either c.insert.result c.insert.ensures.updates c.insert.ensures.err) [
      | inl updates ↦ IsApart-with s.bounds (objects_in s) _ at c.args.length s.apart c.requires.room
          (with_long (tree.get nat_cmp s.lengths) (tree.get nat_cmp c.insert.new.self) (set.contains nat_cmp s.empty) at c.args.length
          updates.1 (λ q differ. updates.2 q (not_equal at q differ)))
      | inr same ↦ IsApart-same s.bounds (objects_in s) _ s.apart
          (λ other. ap (λ entries. length_from (lookup (is_at (nat_cmp other)) entries) (set.contains nat_cmp s.empty other)) same)
    ]

pub invariant_of-self-clause-once : goal.invariant_of-self-clause-once
invariant_of-self-clause-once c other length is =
    let s = c.args.self.now in
    let at = c.args.address in
    elim (either c.insert.result c.insert.ensures.updates c.insert.ensures.err) [
      | inl updates ↦ elim (new_or_before (tree.get nat_cmp s.lengths) (tree.get nat_cmp c.insert.new.self) at c.args.length updates.1
          (λ q differ. updates.2 q (not_equal at q differ)) other length is) [
            | inl new ↦ ap (set.contains nat_cmp s.empty) (sym new.0) ∙ (not_kept _ _ c.requires.room.fresh).1
            | inr before ↦ s.once other length before
          ]
      | inr same ↦ s.once other length (sym (ap (lookup (is_at (nat_cmp other))) same) ∙ is)
    ]

pub invariant_of-self-clause-long : goal.invariant_of-self-clause-long
invariant_of-self-clause-long c other length is =
    let s = c.args.self.now in
    let at = c.args.address in
    elim (either c.insert.result c.insert.ensures.updates c.insert.ensures.err) [
      | inl updates ↦ elim (new_or_before (tree.get nat_cmp s.lengths) (tree.get nat_cmp c.insert.new.self) at c.args.length updates.1
          (λ q differ. updates.2 q (not_equal at q differ)) other length is) [
            | inl new ↦ omega (arith, new.1, c.requires.some)
            | inr before ↦ s.long other length before
          ]
      | inr same ↦ s.long other length (sym (ap (lookup (is_at (nat_cmp other))) same) ∙ is)
    ]

pub invariant_of-self-clause-begins : goal.invariant_of-self-clause-begins
invariant_of-self-clause-begins c straight other length is =
    let s = c.args.self.now in
    let at = c.args.address in
    let told = c.stays_straight-self.ensures straight in
    elim (either c.insert.result c.insert.ensures.updates c.insert.ensures.err) [
      | inl updates ↦ elim (new_or_before (tree.get nat_cmp s.lengths) (tree.get nat_cmp c.insert.new.self) at c.args.length updates.1
          (λ q differ. updates.2 q (not_equal at q differ)) other length is) [
            | inl new ↦ ap (λ a. rounded_base a length) (sym new.0) ∙ ap (rounded_base at) (sym new.1) ∙ sym c.requires.base ∙ told.1 ∙ new.0
            | inr before ↦ s.begins told.0 other length before
          ]
      | inr same ↦ s.begins told.0 other length (sym (ap (lookup (is_at (nat_cmp other))) same) ∙ is)
    ]
