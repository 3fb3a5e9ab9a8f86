use Rattle.std.proofs.Common.{◌≡◌, ◌++◌, drop, take}
use Rattle.cap_json.specs.Words.{past, upto}
use Rattle.cap_json.proofs.words.cut.Given as goal

-- no byte so far is of this kind
abbrev pub invariant-loop-index : goal.invariant-loop-index
invariant-loop-index l =
    (upto l.end l.bytes ≡ take l.index l.bytes ++ upto l.end (drop l.index l.bytes))
    × (past l.end l.bytes ≡ past l.end (drop l.index l.bytes))
