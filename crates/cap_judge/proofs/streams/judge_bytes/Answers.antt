use Rattle.std.proofs.Common.{IfErr, IfOk, arith, rules}
use Rattle.cap_judge.specs.Verdicts.{NoVerdictIn, IsVerdict}
use Rattle.cap_judge.proofs.{EscapeLaws.escapes_of, JudgeLemmas.{answered, guarded}, SourceLemmas.of_all}
use Rattle.cap_judge.proofs.streams.judge_bytes.Goals as goal

-- a slice counts no fault
both : (c : goal.After-judge) → IfOk c.judge.result (IsVerdict c.args.bytes.now) × IfErr c.judge.result (NoVerdictIn c.args.bytes.now)
both c =
    let judged = c.judge.ensures.judged in
    of_all c.args.bytes.now judged.given c.judge.new.source.rest.now c.judge.new.source.is_ended c.judge.result (search rules)
    c.judge.new.source.all_given judged.answer
    (λ e. let grew = c.judge.ensures.counted.1 e in omega (arith, grew))

pub returns : goal.returns
returns c = record {
  verdict = (both c).0;
  authority = guarded c.args.bytes.now;
  escape = escapes_of c.args.bytes.now c.judge.result;
  fault = (both c).1;
  answers = answered c.args.bytes.now c.judge.result (both c).1;
}
