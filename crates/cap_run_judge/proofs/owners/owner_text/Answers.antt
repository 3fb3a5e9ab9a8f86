use Rattle.std.proofs.Common.{arith, decimal}
use Rattle.cap_log.proofs.ElementLemmas.{short_decimal}
use Rattle.cap_streams.specs.Written.{Writes, ◌⨾◌}
use Rattle.cap_run_judge.specs.OwnerLists.{owner_line}
use Rattle.cap_run_judge.proofs.TextLemmas.{front_ends, front_rest}
use Rattle.cap_run_judge.proofs.owners.owner_text.Goals as goal

-- the whole line
wrote : (c : goal.After-put) → Writes 0 (owner_line c.args.hart c.args.place c.args.number) c.args.buffer.now c.put.new.buffer c.put.result
wrote c =
    let number : Writes _ (decimal c.args.number) _ _ _ = rw c.from.ensures at c.put_decimal-at.ensures.text in
    c.put-at.ensures.written ⨾ c.put_hart_place-at.ensures.text ⨾ c.put-at-2.ensures.written ⨾ number ⨾ c.put.ensures.written

pub returns-clause-line : goal.returns-clause-line
returns-clause-line c = (wrote c).written

pub returns-clause-length : goal.returns-clause-length
returns-clause-length c = front_ends _ _ _ _ (wrote c)

pub returns-clause-rest : goal.returns-clause-rest
returns-clause-rest c = front_rest _ _ _ _ (wrote c)

pub put_decimal-at-requires : goal.put_decimal-at-requires
put_decimal-at-requires c = omega (arith, short_decimal)
