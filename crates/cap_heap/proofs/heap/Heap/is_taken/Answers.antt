use Rattle.std.specs.BTreeMap as tree
use Rattle.std.specs.BTreeSet as set
use Rattle.std.proofs.Common.{arith, nat_cmp}
use Rattle.cap_heap.proofs.{Keeping.{of_none, told_by_set}, Rounded.none-at}
use Rattle.cap_heap.proofs.heap.Heap.is_taken.Goals as goal

pub returns-then-is_none : goal.returns-then-is_none
returns-then-is_none c =
    let s = c.args.self.now in
    let lengths = tree.get nat_cmp s.lengths in
    let apart = of_none c.args.overlapped c.if-is_none.ensures c.requires in
    rw c.contains.ensures
    (told_by_set (lengths c.args.address) (set.contains nat_cmp s.empty c.args.address)
    (none-at lengths (set.contains nat_cmp s.empty) s.long c.args.address c.args.length (omega (arith, c.if-length-gt0.true)) apart))
