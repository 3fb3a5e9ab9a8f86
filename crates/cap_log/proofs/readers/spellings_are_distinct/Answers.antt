use Rattle.cap_log.proofs.SpellingLemmas.{one_spelling, spelling-plain, spelling-short}
use Rattle.cap_log.proofs.readers.spellings_are_distinct.Goals as goal

pub returns-clause-one : goal.returns-clause-one
returns-clause-one c = one_spelling

pub returns-clause-plain : goal.returns-clause-plain
returns-clause-plain c = spelling-plain

pub returns-clause-short : goal.returns-clause-short
returns-clause-short c = spelling-short
