use Rattle.std.proofs.Common.{◌≡◌, ℕ, ◌<◌, ◌≤◌, false}
use Rattle.tagmem.specs.Pages.{has_page}
use Rattle.tagmem.proofs.region.Region.first_from.Given as goal

abbrev pub invariant-loop-i : goal.invariant-loop-i
invariant-loop-i l = (k : ℕ) → l.place ≤ k → k < l.i → has_page l.self.there k ≡ false
