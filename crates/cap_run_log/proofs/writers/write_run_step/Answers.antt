use Rattle.std.proofs.Common.{refl, arith}
use Rattle.cap_run_log.specs.RunLines.{run_spelling}
use Rattle.cap_run_log.proofs.writers.write_run_step.Goals as goal

pub end_line-requires-in-Derive-clause-spelling : goal.end_line-requires-in-Derive-clause-spelling
unfolding run_spelling
end_line-requires-in-Derive-clause-spelling c = rw (c.requires.same, c.in-Derive.is) refl

pub end_line-requires-in-Derive-clause-fits : goal.end_line-requires-in-Derive-clause-fits
end_line-requires-in-Derive-clause-fits c =
    let in_range = rw c.in-Derive.is at c.requires.in_range in
    (in_range.0, (in_range.1, omega (arith, in_range.2)))
