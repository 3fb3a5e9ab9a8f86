use Rattle.std.proofs.Common.{◌≤◌, length, decimal, arith, rules}
use Rattle.cap_run_judge.proofs.TextLemmas.{hart_digits}
use Rattle.cap_run_judge.proofs.owners.put_hart_place.Goals as goal

pub put_decimal-at-requires : goal.put_decimal-at-requires
put_decimal-at-requires c =
    let few : length (decimal c.from.result) ≤ 5 = hart_digits c.from.result (search rules) in omega (arith, few)

pub put_run_place-requires-2-clause-room : goal.put_run_place-requires-2-clause-room
put_run_place-requires-2-clause-room c =
    let few : length (decimal c.from.result) ≤ 5 = hart_digits c.from.result (search rules) in omega (arith, few)

pub returns-clause-fits : goal.returns-clause-fits
returns-clause-fits c =
    let few : length (decimal c.from.result) ≤ 5 = hart_digits c.from.result (search rules) in omega (arith, few)
