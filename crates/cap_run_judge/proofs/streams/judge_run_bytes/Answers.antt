use Rattle.std.proofs.Common.{IfErr, IfOk, arith, rules}
use Rattle.cap_run_judge.specs.Verdicts.{IsRunVerdict, NoRunVerdictIn}
use Rattle.cap_run_judge.proofs.{GuardLemmas.run_guarded, SourceLemmas.of_all}
use Rattle.cap_run_judge.proofs.streams.judge_run_bytes.Goals as goal

-- a slice counts no fault
both : (c : goal.After-judge_run)
    → IfOk c.judge_run.result (IsRunVerdict c.args.asks c.args.bytes.now) × IfErr c.judge_run.result (NoRunVerdictIn c.args.asks c.args.bytes.now)
both c =
    let judged = c.judge_run.ensures.judged in
    of_all c.args.asks c.args.bytes.now judged.given c.judge_run.new.source.rest.now c.judge_run.new.source.is_ended c.judge_run.result
    (search rules) c.judge_run.new.source.all_given judged.answer
    (λ e. let grew = c.judge_run.ensures.counted.1 e in omega (arith, grew))

pub returns : goal.returns
returns c = record { verdict = (both c).0; guarded = run_guarded c.args.asks c.args.bytes.now; fault = (both c).1 }
