use Rattle.cap_judge.proofs.VersionLemmas.{by_version_one, same_by_one}
use Rattle.cap_judge.proofs.laws.other_bytes_are_of_version_one.Goals as goal

pub returns-clause-of_one : goal.returns-clause-of_one
returns-clause-of_one c = by_version_one

pub returns-clause-same : goal.returns-clause-same
returns-clause-same c = same_by_one
