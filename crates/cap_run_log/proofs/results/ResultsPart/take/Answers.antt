use Rattle.std.proofs.Common.{arith}
use Rattle.cap_run_log.proofs.Rows.{no_results}
use Rattle.cap_run_log.proofs.ResultLemmas.{both_read, no_general, no_second}
use Rattle.cap_run_log.proofs.results.ResultsPart.take.Goals as goal

pub returns-then-bytes-lt-RESULTS_LENGTH-clause-none : goal.returns-then-bytes-lt-RESULTS_LENGTH-clause-none
returns-then-bytes-lt-RESULTS_LENGTH-clause-none c =
    no_results c.args.end c.args.bytes.now (omega (arith, c.if-bytes-lt-RESULTS_LENGTH.true))

pub returns-in_default-clause-none : goal.returns-in_default-clause-none
returns-in_default-clause-none c = no_general c.args.end c.args.bytes.now c.in_default.ensures.none

pub returns-in_default-take-clause-none : goal.returns-in_default-take-clause-none
returns-in_default-take-clause-none c =
    no_second c.args.end c.args.bytes.now c.in-Some.others.now c.in-Some.general c.in-Some.ensures.some.1 c.in_default-take.ensures.none

pub returns-clause-some : goal.returns-clause-some
returns-clause-some c =
    both_read c.args.end c.args.bytes.now c.in-Some.others.now c.in-Some-take.rest.now
    (record { general = c.in-Some.general; special = record { tag = c.in-Some-take.tag.0; word = c.in-Some-take.word } })
    c.in-Some.ensures.some c.in-Some-take.ensures.some
