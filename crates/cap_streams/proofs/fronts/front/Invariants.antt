use Rattle.std.proofs.Common.{◌≡◌, ℕ, ◌<◌, get_or}
use Rattle.cap_streams.proofs.fronts.front.Given as goal

-- no line feed so far
abbrev pub invariant-loop-index : goal.invariant-loop-index
invariant-loop-index l = (k : ℕ) → k < l.index → get_or l.bytes k 0 ≡ 10 → ⊥
