use Rattle.std.proofs.Common.{◌≡◌, ◌++◌, take}
use Rattle.capdiag.specs.Renderings.{name_text}
use Rattle.capdiag.proofs.forms.push_name.Given as goal

-- the bytes so far were appended
abbrev pub invariant-loop-byte : goal.invariant-loop-byte
invariant-loop-byte l = l.text.items ≡ l.fn.text.items ++ name_text l.is_raw (take l.byte-index l.name)
