use Rattle.std.specs.FinMap.{len, len-empty}
use Rattle.std.proofs.Common.{ap, ◌∙◌, nat_cmp}
use Rattle.tagmem.specs.Granules.{Entry}
use Rattle.cap_run_judge.proofs.streams.judge_run.Goals as goal

pub judge_run_in-requires : goal.judge_run_in-requires
judge_run_in-requires g c = ap len c.new.ensures.empty ∙ len-empty nat_cmp Entry
