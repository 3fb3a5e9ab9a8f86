use Rattle.std.proofs.Common.{◌≡◌, ◌++◌, [], length}
use Rattle.cap_json.specs.{declared.rows.Place.TheVariants.Alone, Members.members, Words.lines_of}
use Rattle.cap_json.proofs.members.push_members.Given as goal

-- what was appended, and the members of the rest, are the members of all lines
abbrev pub invariant-loop-group : goal.invariant-loop-group
invariant-loop-group l =
    l.object.items ++ members l.last l.group (lines_of l.rest) ≡ l.fn.object.items ++ members Alone [] (lines_of l.lines)

abbrev pub decreases-loop-group : goal.decreases-loop-group
decreases-loop-group l = length l.rest
