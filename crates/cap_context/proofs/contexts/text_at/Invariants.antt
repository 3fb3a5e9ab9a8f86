use Rattle.std.proofs.Common.{◌≡◌, ◌≤◌, ◌+◌, [], length}
use Rattle.cap_json.specs.Words.{lines_of}
use Rattle.cap_context.specs.Contexts.{numbered, text_at}
use Rattle.cap_context.proofs.contexts.text_at.Given as goal

-- what is found so far, and then in the rest, is found in all lines
abbrev pub invariant-loop-rest : goal.invariant-loop-rest
invariant-loop-rest l =
    (text_at l.line l.found (numbered l.at (lines_of l.rest)) ≡ text_at l.line [] (numbered l.from (lines_of l.bytes)))
    × (l.at + length l.rest ≤ l.from + length l.bytes)

abbrev pub decreases-loop-rest : goal.decreases-loop-rest
decreases-loop-rest l = length l.rest
