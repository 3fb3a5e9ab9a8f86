use Rattle.std.proofs.Common.{arith, decimal, ◌∙◌}
use Rattle.cap_log.proofs.ElementLemmas.{short_decimal}
use Rattle.cap_streams.specs.Written.{Writes, ◌⨾◌}
use Rattle.cap_run_judge.specs.VerdictLines.{run_refusal_name, run_refusal_number, run_verdict_line}
use Rattle.cap_run_judge.proofs.TextLemmas.{front_ends, front_rest}
use Rattle.cap_run_judge.proofs.verdict_lines.run_verdict_text.Goals as goal

-- the whole line of a yes
wrote : (c : goal.After-put) → Writes 0 (run_verdict_line c.args.verdict.now) c.args.buffer.now c.put.new.buffer c.put.result
wrote c = rw c.in-Yes.is (
    c.put-at.ensures.written ⨾ c.put_count-at.ensures.text ⨾ c.put-at-in-Yes.ensures.written ⨾ c.put_count-at-in-Yes.ensures.text
    ⨾ c.put-at-in-Yes-2.ensures.written ⨾ c.put_count-at-in-Yes-2.ensures.text ⨾ c.put.ensures.written)

-- the whole line of a no
wrote-no : (c : goal.After-put-in-No) → Writes 0 (run_verdict_line c.args.verdict.now) c.args.buffer.now c.put-in-No.new.buffer c.put-in-No.result
wrote-no c =
    let number : Writes _ (decimal (run_refusal_number c.in-No.refusal)) _ _ _ =
    rw (c.from.ensures ∙ c.run_refusal_number.ensures.number) at c.put_decimal-at-in-No.ensures.text in
    let name : Writes _ (run_refusal_name c.in-No.refusal) _ _ _ =
    rw (c.as_bytes.ensures.value ∙ c.run_refusal_name.ensures.name) at c.put-at-in-No-4.ensures.written in
    rw c.in-No.is (
    c.put-at-in-No.ensures.written ⨾ c.put_decimal-at.ensures.text ⨾ c.put-at-in-No-2.ensures.written ⨾ number
    ⨾ c.put-at-in-No-3.ensures.written ⨾ name ⨾ c.put-in-No.ensures.written)

pub returns-in-Yes-clause-line : goal.returns-in-Yes-clause-line
returns-in-Yes-clause-line c = (wrote c).written

pub returns-in-Yes-clause-length : goal.returns-in-Yes-clause-length
returns-in-Yes-clause-length c = front_ends _ _ _ _ (wrote c)

pub returns-in-Yes-clause-rest : goal.returns-in-Yes-clause-rest
returns-in-Yes-clause-rest c = front_rest _ _ _ _ (wrote c)

pub returns-in-No-clause-line : goal.returns-in-No-clause-line
returns-in-No-clause-line c = (wrote-no c).written

pub returns-in-No-clause-length : goal.returns-in-No-clause-length
returns-in-No-clause-length c = front_ends _ _ _ _ (wrote-no c)

pub returns-in-No-clause-rest : goal.returns-in-No-clause-rest
returns-in-No-clause-rest c = front_rest _ _ _ _ (wrote-no c)

pub put_decimal-at-requires : goal.put_decimal-at-requires
put_decimal-at-requires c = omega (arith, short_decimal)

pub put_decimal-at-requires-in-No : goal.put_decimal-at-requires-in-No
put_decimal-at-requires-in-No c = omega (arith, short_decimal)

pub put-at-requires-in-No-4 : goal.put-at-requires-in-No-4
put-at-requires-in-No-4 c = omega arith

pub put-requires-in-No : goal.put-requires-in-No
put-requires-in-No c = omega arith

pub returns-in-No-clause-fits : goal.returns-in-No-clause-fits
returns-in-No-clause-fits c = omega arith
