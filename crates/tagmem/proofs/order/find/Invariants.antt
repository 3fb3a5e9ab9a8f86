use Rattle.std.proofs.Common.{◌≡◌, ℕ, suc, true, ◌<◌, get_or, length}
use Rattle.tagmem.specs.{Orders.{AreKept, HaveLevels, above, leads, leads_all}, Regions.{links_of, numbers_of}}
use Rattle.tagmem.proofs.order.find.Given as goal

abbrev pub invariant-loop-region : goal.invariant-loop-region
invariant-loop-region l = let numbers = numbers_of l.regions in let links = links_of l.roots l.regions in record {
  in_range : l.index < length l.regions;
  low : l.level < 20;
  sought : (at : ℕ) → at < length numbers → get_or numbers at 0 ≡ l.number → leads links l.number l.level (suc l.index) at ≡ true;
  goes_on : (more : ℕ → ℕ → ℕ) (at : ℕ) → AreKept links more → leads more l.number l.level (suc l.index) at ≡ true
      → leads_all more l.number at ≡ true;
  placed : (level_of : ℕ → ℕ) → HaveLevels numbers links level_of
      → (level_of l.index ≡ l.level) × (above l.level (get_or numbers l.index 0) ≡ above l.level l.number);
}

abbrev pub decreases-loop-region : goal.decreases-loop-region
decreases-loop-region l = l.level
