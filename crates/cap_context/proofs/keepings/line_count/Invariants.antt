use Rattle.std.proofs.Common.{◌≤◌}
use Rattle.cap_context.proofs.keepings.line_count.Given as goal

-- at most each byte so far ends a line
abbrev pub invariant-loop-byte : goal.invariant-loop-byte
invariant-loop-byte l = l.count ≤ l.byte-index
