use Rattle.std.proofs.Common.{ℕ, List}
use Rattle.cap_context.specs.{Keepings.Keeps, Writers.written}
use Rattle.cap_context.proofs.keepings.dropped.Given as goal

-- what was kept of some bytes still is
abbrev pub invariant-loop-left : goal.invariant-loop-left
invariant-loop-left l =
    (given : List ℕ) → Keeps l.fn.skipped l.fn.hart (written l.fn.writers) l.bytes given
    → Keeps l.skipped l.hart (written l.writers) l.rest given

abbrev pub decreases-loop-left : goal.decreases-loop-left
decreases-loop-left l = l.left
