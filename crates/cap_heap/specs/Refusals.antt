-- The refusals of an allocator's log: their numbers and their names.
use Rattle.std.specs.Prelude.{ℕ, List}
use Rattle.cap_ops.specs.Refusals.{refusal_name_at}
use Rattle.cap_heap.specs.declared.refusal.HeapRefusal.{HeapRefusal, TheVariants.{BadHeader, LineTooLong, BadLine}}
use Rattle.cap_heap.specs.declared.refusal.HeapRefusal.TheVariants.{Misplaced, Truncated, WrongCount, LimitPassed}
use Rattle.cap_heap.specs.declared.refusal.HeapRefusal.TheVariants.{AddressTaken, OutsideHeap, Overlaps, NotLive}

-- a refusal's number: those of a log of operations keep theirs (this profile's own)
abbrev pub heap_refusal_number : HeapRefusal → ℕ
heap_refusal_number BadHeader = 1
heap_refusal_number LineTooLong = 2
heap_refusal_number BadLine = 3
heap_refusal_number Misplaced = 4
heap_refusal_number Truncated = 5
heap_refusal_number WrongCount = 6
heap_refusal_number LimitPassed = 24
heap_refusal_number AddressTaken = 26
heap_refusal_number OutsideHeap = 27
heap_refusal_number Overlaps = 28
heap_refusal_number NotLive = 29

-- a refusal's name, that of its number
abbrev pub heap_refusal_name : HeapRefusal → List ℕ
heap_refusal_name refusal = refusal_name_at (heap_refusal_number refusal)
