use Rattle.std.specs.BTreeMap as tree
use Rattle.std.specs.BTreeSet as set
use Rattle.std.proofs.Common.{sym, refl, ◌∙◌, nat_cmp}
use Rattle.cap_heap.specs.Heaps.{objects_in}
use Rattle.cap_heap.proofs.{Keeping.{without, not_equal, some_is, there_before}, Objects.IsApart-without}
use Rattle.cap_heap.proofs.heap.Heap.free.Goals as goal

pub invariant_of-self-clause-apart : goal.invariant_of-self-clause-apart
invariant_of-self-clause-apart c =
    let s = c.args.self.now in
    let at = c.args.address in
    let there = some_is c.remove.result (sym c.if-is_some.ensures) in
    IsApart-without s.bounds (objects_in s) _ at s.apart
    (without (tree.get nat_cmp s.lengths) (tree.get nat_cmp c.remove.new.self) (set.contains nat_cmp s.empty) (set.contains nat_cmp s.empty) at
    c.remove.ensures.updates.1 (s.once at there.0 (sym c.remove.ensures.value ∙ there.1))
    (λ q differ. c.remove.ensures.updates.2 q (not_equal at q differ)) (λ q differ. refl))

pub invariant_of-self-2-clause-apart : goal.invariant_of-self-2-clause-apart
invariant_of-self-2-clause-apart c =
    let s = c.args.self.now in
    let at = c.args.address in
    IsApart-without s.bounds (objects_in s) _ at s.apart
    (without (tree.get nat_cmp s.lengths) (tree.get nat_cmp c.remove.new.self) (set.contains nat_cmp s.empty)
    (set.contains nat_cmp c.remove-2.new.self) at
    c.remove.ensures.updates.1 c.remove-2.ensures.updates.1
    (λ q differ. c.remove.ensures.updates.2 q (not_equal at q differ))
    (λ q differ. c.remove-2.ensures.updates.2 q (not_equal at q differ)))

pub invariant_of-self-clause-long : goal.invariant_of-self-clause-long
invariant_of-self-clause-long c other length is =
    let s = c.args.self.now in
    s.long other length (there_before (tree.get nat_cmp s.lengths) (tree.get nat_cmp c.remove.new.self) c.args.address c.remove.ensures.updates.1
    (λ q differ. c.remove.ensures.updates.2 q (not_equal c.args.address q differ)) other length is).1

pub invariant_of-self-clause-once : goal.invariant_of-self-clause-once
invariant_of-self-clause-once c other length is =
    let s = c.args.self.now in
    let before = there_before (tree.get nat_cmp s.lengths) (tree.get nat_cmp c.remove.new.self) c.args.address c.remove.ensures.updates.1
    (λ q differ. c.remove.ensures.updates.2 q (not_equal c.args.address q differ)) other length is in
    s.once other length before.1

pub invariant_of-self-2-clause-long : goal.invariant_of-self-2-clause-long
invariant_of-self-2-clause-long c other length is =
    let s = c.args.self.now in
    s.long other length (there_before (tree.get nat_cmp s.lengths) (tree.get nat_cmp c.remove.new.self) c.args.address c.remove.ensures.updates.1
    (λ q differ. c.remove.ensures.updates.2 q (not_equal c.args.address q differ)) other length is).1

pub invariant_of-self-2-clause-once : goal.invariant_of-self-2-clause-once
invariant_of-self-2-clause-once c other length is =
    let s = c.args.self.now in
    let before = there_before (tree.get nat_cmp s.lengths) (tree.get nat_cmp c.remove.new.self) c.args.address c.remove.ensures.updates.1
    (λ q differ. c.remove.ensures.updates.2 q (not_equal c.args.address q differ)) other length is in
    c.remove-2.ensures.updates.2 other (not_equal c.args.address other before.0) ∙ s.once other length before.1
