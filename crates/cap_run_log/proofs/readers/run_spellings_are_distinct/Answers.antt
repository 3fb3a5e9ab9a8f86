use Rattle.cap_run_log.proofs.Spellings.{one_run_spelling, run_spelling-plain, run_spelling-short}
use Rattle.cap_run_log.proofs.readers.run_spellings_are_distinct.Goals as goal

pub returns-clause-one : goal.returns-clause-one
returns-clause-one c = one_run_spelling

pub returns-clause-plain : goal.returns-clause-plain
returns-clause-plain c = run_spelling-plain

pub returns-clause-short : goal.returns-clause-short
returns-clause-short c = run_spelling-short
