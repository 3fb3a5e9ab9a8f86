use Rattle.std.proofs.Common.{◌≡◌, ◌≤◌, ◌+◌, length}
use Rattle.cap_json.specs.Words.{lines_of}
use Rattle.cap_context.specs.Contexts.{hart_at, numbered}
use Rattle.cap_context.proofs.contexts.hart_at.Given as goal

-- the hart so far, and then that of the rest, is that of all lines
abbrev pub invariant-loop-rest : goal.invariant-loop-rest
invariant-loop-rest l =
    (hart_at l.line l.hart (numbered l.at (lines_of l.rest)) ≡ hart_at l.line l.before (numbered l.from (lines_of l.bytes)))
    × (l.at + length l.rest ≤ l.from + length l.bytes)

abbrev pub decreases-loop-rest : goal.decreases-loop-rest
decreases-loop-rest l = length l.rest
