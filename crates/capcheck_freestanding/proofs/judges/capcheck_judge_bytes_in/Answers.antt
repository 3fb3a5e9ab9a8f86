use Rattle.std.specs.FinMap.{len, len-empty}
use Rattle.std.proofs.Common.{ℕ, ap, ◌∙◌, nat_cmp, subst}
use Rattle.tagmem.specs.Granules.{Entry}
use Rattle.cap_judge.specs.Logs.{LacksRoom}
use Rattle.capcheck_freestanding.proofs.judges.capcheck_judge_bytes_in.Goals as goal

pub answer_on-requires : goal.answer_on-requires
answer_on-requires c = ap len c.new.ensures.empty ∙ len-empty nat_cmp Entry

pub returns-clause-full : goal.returns-clause-full
returns-clause-full c = λ three.
    subst (λ (room : ℕ). LacksRoom room c.args.bytes.now) c.new.ensures.capacity (c.answer_on.ensures.full three)
