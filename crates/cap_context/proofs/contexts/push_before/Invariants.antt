use Rattle.std.proofs.Common.{◌≡◌, ◌≤◌, ◌+◌, ◌++◌, length}
use Rattle.cap_json.specs.Words.{lines_of}
use Rattle.cap_context.specs.Contexts.{before_lines, numbered}
use Rattle.cap_context.proofs.contexts.push_before.Given as goal

-- what was appended, and the lines of the rest, are those of all lines
abbrev pub invariant-loop-rest : goal.invariant-loop-rest
invariant-loop-rest l =
    (l.report.items ++ before_lines l.count l.line (numbered l.at (lines_of l.rest))
    ≡ l.fn.report.items ++ before_lines l.count l.line (numbered l.from (lines_of l.bytes)))
    × (l.at + length l.rest ≤ l.from + length l.bytes)

abbrev pub decreases-loop-rest : goal.decreases-loop-rest
decreases-loop-rest l = length l.rest
