use Rattle.std.specs.FinMap.{len, len-empty}
use Rattle.std.proofs.Common.{ap, ◌∙◌, nat_cmp}
use Rattle.tagmem.specs.Granules.{Entry}
use Rattle.capcheck_judge.proofs.judges.capcheck_judge_bytes.Goals as goal

pub answer_on-requires : goal.answer_on-requires
answer_on-requires c = ap len c.new.ensures.empty ∙ len-empty nat_cmp Entry
