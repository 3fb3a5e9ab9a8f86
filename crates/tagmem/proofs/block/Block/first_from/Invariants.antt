use Rattle.std.proofs.Common.{◌≡◌, ℕ, ◌<◌, ◌≤◌, get_or, None}
use Rattle.tagmem.specs.Blocks.{slots_of}
use Rattle.tagmem.proofs.block.Block.first_from.Given as goal

abbrev pub invariant-loop-i : goal.invariant-loop-i
invariant-loop-i l = (k : ℕ) → l.slot ≤ k → k < l.i → get_or (slots_of l.self) k None ≡ None
