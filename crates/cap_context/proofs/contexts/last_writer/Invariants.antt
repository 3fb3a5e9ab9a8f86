use Rattle.std.proofs.Common.{◌≡◌, ◌≤◌, ◌+◌, length, option_map}
use Rattle.cap_json.specs.Words.{lines_of}
use Rattle.cap_context.specs.{Contexts.{last_writer, numbered}, Readings.entry_of}
use Rattle.cap_context.proofs.contexts.last_writer.Given as goal

-- what is found so far, and then in the rest, is found in all lines
abbrev pub invariant-loop-hart : goal.invariant-loop-hart
invariant-loop-hart l =
    (last_writer (l.register, l.whose) l.line (l.hart, option_map entry_of l.last) (numbered l.at (lines_of l.rest))
    ≡ last_writer (l.register, l.whose) l.line (l.before, option_map entry_of l.fn.found) (numbered l.from (lines_of l.bytes)))
    × (l.at + length l.rest ≤ l.from + length l.bytes)

abbrev pub decreases-loop-hart : goal.decreases-loop-hart
decreases-loop-hart l = length l.rest
