use Rattle.std.specs.FinMap.{len, len-empty}
use Rattle.std.proofs.Common.{ap, nat_cmp, ◌∙◌}
use Rattle.tagmem.specs.Granules.{Entry}
use Rattle.cap_judge.proofs.judges.Judge+PageStore.over_pages.Goals as goal

pub new-requires-2 : goal.new-requires-2
new-requires-2 c = ap len c.new.ensures.empty ∙ len-empty nat_cmp Entry
