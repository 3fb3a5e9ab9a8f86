-- A store that is empty.
use Rattle.std.specs.FinMap.{empty, len, len-empty}
use Rattle.std.proofs.Common.{◌≡◌, ap, ◌∙◌, nat_cmp}
use Rattle.tagmem.specs.Granules.{Entry, Granules}

-- its count is 0
pub no_granules : (granules : Granules) → granules ≡ empty → len granules ≡ 0
no_granules granules is = ap len is ∙ len-empty nat_cmp Entry
