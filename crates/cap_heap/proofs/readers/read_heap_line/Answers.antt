use Rattle.std.proofs.Common.{arith}
use Rattle.cap_heap.specs.declared.heads.HeapHead.{HeapHead}
use Rattle.cap_heap.proofs.LineLemmas.{no_root, none_behind, none_headed}
use Rattle.cap_heap.proofs.readers.read_heap_line.Goals as goal

pub returns-in_err-head-clause-none : goal.returns-in_err-head-clause-none
returns-in_err-head-clause-none c = rw c.from_residual.ensures (none_headed c.args.text.now c.in_err-head.ensures.none)

pub returns-in_err-address-in-Malloc-clause-none : goal.returns-in_err-address-in-Malloc-clause-none
returns-in_err-address-in-Malloc-clause-none c =
    rw c.from_residual-in_err-address-in-Malloc.ensures (none_behind HeapHead.Malloc c.in_ok-head.head c.args.text.now
    c.in_ok-head.operands.now c.in_ok-head.ensures.some c.in-Malloc.is c.in_err-address-in-Malloc.ensures)

pub returns-in_err-base-in-Root-clause-none : goal.returns-in_err-base-in-Root-clause-none
returns-in_err-base-in-Root-clause-none c =
    rw c.from_residual-in_err-base-in-Root.ensures (none_behind HeapHead.Root c.in_ok-head.head c.args.text.now
    c.in_ok-head.operands.now c.in_ok-head.ensures.some c.in-Root.is c.in_err-base-in-Root.ensures)

pub returns-else-from-top-clause-none : goal.returns-else-from-top-clause-none
returns-else-from-top-clause-none c =
    let part = c.in_ok-base-in-Root in
    no_root c.in_ok-head.head c.args.text.now c.in_ok-head.operands.now (part.base, part.field-0-1) c.in_ok-head.ensures.some c.in-Root.is
    part.ensures.0 part.ensures.1 (λ below. omega (arith, below, part.top-is, c.from.ensures, c.if-from-top.false))
