use Rattle.std.specs.FinMap.{len, len-empty}
use Rattle.std.proofs.Common.{ap, ◌∙◌, nat_cmp}
use Rattle.tagmem.specs.Granules.{Entry}
use Rattle.capdiag.proofs.judges.judge_asked.Goals as goal

pub judge_run_why-requires : goal.judge_run_why-requires
judge_run_why-requires g c = ap len c.new-memory.ensures.empty ∙ len-empty nat_cmp Entry

pub judge_run_to-requires : goal.judge_run_to-requires
judge_run_to-requires g c = ap len c.new-memory.ensures.empty ∙ len-empty nat_cmp Entry

pub returns-then-why-clause-reported : goal.returns-then-why-clause-reported
returns-then-why-clause-reported g c = rw c.if-why.true (rw c.asks_of-asks.ensures.value at c.judge_run_why.ensures.explained)

pub returns-else-why-clause-reported : goal.returns-else-why-clause-reported
returns-else-why-clause-reported g c = rw c.if-why.false (rw c.asks_of-asks.ensures.value at c.judge_run_to.ensures.reported)
