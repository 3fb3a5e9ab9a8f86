use Rattle.std.proofs.Common.{ℕ, ◌<◌, ◌≤◌, get_or, length}
use Rattle.tagmem.specs.{Orders.{IsOneFrom, IsUpTo, slot_of}, Regions.numbers_of}
use Rattle.tagmem.proofs.order.least_from.Given as goal

abbrev pub invariant-loop-next : goal.invariant-loop-next
invariant-loop-next l = let numbers = numbers_of l.regions in record {
  one : IsOneFrom numbers l.from l.least;
  up : (at : ℕ) → at < length numbers → l.from ≤ get_or numbers at 0 → slot_of (get_or numbers at 0) < l.next
      → IsUpTo (get_or numbers at 0) l.least;
}
