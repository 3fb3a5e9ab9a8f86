use Rattle.std.proofs.Common.{ℕ, suc, ◌-◌, ◌*◌, ◌<◌, ◌≤◌, List, get_or, length}
use Rattle.tagmem.specs.Trees.{AreKept, LeadsTo}
use Rattle.tagmem.proofs.trees.end.Given as goal

abbrev pub invariant-loop-number : goal.invariant-loop-number
invariant-loop-number l = record {
  in_range : 2 * l.parent < length l.links;
  within : (limit : ℕ) → suc l.first ≤ limit → ((place : ℕ) → get_or l.links place 0 ≤ limit) → suc l.parent ≤ limit;
  goes_on : (more : List ℕ) (to : ℕ) → AreKept l.links more → LeadsTo more l.bits (suc l.parent) (suc to)
      → LeadsTo more l.number (suc l.first) (suc to);
}

abbrev pub decreases-loop-number : goal.decreases-loop-number
decreases-loop-number l = length l.links - l.parent
