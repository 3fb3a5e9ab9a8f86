use Rattle.std.proofs.Common.{ℕ, subst}
use Rattle.cap_judge.specs.Logs.{LacksRoom}
use Rattle.cap_judge.proofs.streams.judge_bytes_keeping.Goals as goal

pub returns-clause-full : goal.returns-clause-full
returns-clause-full g c = λ is.
    subst (λ (room : ℕ). LacksRoom room c.args.bytes.now) c.new-judge.ensures.least_room (c.judge_all-answer.ensures.full is)
