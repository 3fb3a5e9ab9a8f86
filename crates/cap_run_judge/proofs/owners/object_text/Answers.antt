use Rattle.std.proofs.Common.{◌+◌, arith, decimal}
use Rattle.cap_objects.specs.Moments.{line_at}
use Rattle.cap_log.proofs.ElementLemmas.{short_decimal}
use Rattle.cap_streams.specs.Written.{Writes, ◌⨾◌}
use Rattle.cap_run_judge.specs.OwnerLists.{object_line}
use Rattle.cap_run_judge.proofs.TextLemmas.{front_ends, front_rest}
use Rattle.cap_run_judge.proofs.owners.object_text.Goals as goal

-- the whole line
wrote : (c : goal.After-put) → Writes 0 (object_line c.args.roots c.args.object) c.args.buffer.now c.put.new.buffer c.put.result
wrote c =
    let number : Writes _ (decimal c.args.object.number) _ _ _ = rw c.from.ensures at c.put_decimal-at.ensures.text in
    let line : Writes _ (decimal (line_at c.args.roots c.args.object.handed_at)) _ _ _ = rw c.line.ensures.value at c.put_decimal-at-2.ensures.text in
    c.put-at.ensures.written ⨾ number ⨾ c.put-at-2.ensures.written ⨾ line ⨾ c.put-at-3.ensures.written
    ⨾ c.put_extent-at.ensures.text ⨾ c.put-at-4.ensures.written ⨾ c.put_life-at.ensures.text
    ⨾ c.put-at-5.ensures.written ⨾ c.put_decimal-at-3.ensures.text ⨾ c.put.ensures.written

pub returns-clause-line : goal.returns-clause-line
returns-clause-line c = (wrote c).written

pub returns-clause-length : goal.returns-clause-length
returns-clause-length c = front_ends _ _ _ _ (wrote c)

pub returns-clause-rest : goal.returns-clause-rest
returns-clause-rest c = front_rest _ _ _ _ (wrote c)

pub put_decimal-at-requires : goal.put_decimal-at-requires
put_decimal-at-requires c = omega (arith, short_decimal)

pub put_decimal-at-requires-2 : goal.put_decimal-at-requires-2
put_decimal-at-requires-2 c = omega (arith, short_decimal)

pub put_decimal-at-requires-3 : goal.put_decimal-at-requires-3
put_decimal-at-requires-3 c = omega (arith, short_decimal)

pub returns-clause-fits : goal.returns-clause-fits
returns-clause-fits c = omega arith
