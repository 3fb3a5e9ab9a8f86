use Rattle.std.proofs.Common.{◌≢◌, ℕ, suc, ◌-◌, ◌%◌, ◌<◌, List, get_or}
use Rattle.tagmem.specs.{Orders.{IsOneFrom, IsUnder, IsUpTo, above}, Regions.{links_of, numbers_of}}
use Rattle.tagmem.proofs.order.+least_under.Given as goal

abbrev pub decreases-least_under : goal.decreases-least_under
decreases-least_under l = l.level

abbrev pub invariant-loop-digit : goal.invariant-loop-digit
invariant-loop-digit l = let numbers = numbers_of l.regions in record {
  one : IsOneFrom numbers l.from l.least;
  under : (roots : List ℕ) (at : ℕ) → IsUnder numbers (links_of roots l.regions) l.from l.level l.link l.prefix at
      → (suc at ≢ l.link → above (l.level - 1) (get_or numbers at 0) % 4 < l.digit) → IsUpTo (get_or numbers at 0) l.least;
}
