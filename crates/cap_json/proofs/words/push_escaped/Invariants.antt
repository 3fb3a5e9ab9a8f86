use Rattle.std.proofs.Common.{◌≡◌, ◌++◌, take}
use Rattle.cap_json.specs.Words.{escaped}
use Rattle.cap_json.proofs.words.push_escaped.Given as goal

-- the bytes so far were appended
abbrev pub invariant-loop-byte : goal.invariant-loop-byte
invariant-loop-byte l = l.object.items ≡ l.fn.object.items ++ escaped (take l.byte-index l.bytes)
