use Rattle.std.proofs.Common.{◌≡◌, ◌≤◌, ◌+◌, drop}
use Rattle.capdiag.specs.Progress.{feeds}
use Rattle.capdiag.proofs.progress.feeds.Given as goal

-- the line feeds so far and those of the rest are all, and no more than there were bytes
abbrev pub invariant-loop-byte : goal.invariant-loop-byte
invariant-loop-byte l = (l.count + feeds (drop l.byte-index l.piece) ≡ feeds l.fn.piece) × (l.count ≤ l.byte-index)
