use Rattle.std.proofs.Common.{rules}
use Rattle.cap_ops.proofs.DerivedLemmas.{derived_within}
use Rattle.cap_ops.proofs.derived_words.derive_fault.Goals as goal

pub returns-else-not-keeps_seal-clause-within : goal.returns-else-not-keeps_seal-clause-within
returns-else-not-keeps_seal-clause-within c _ = derived_within c.args.source c.args.word (search rules) (search rules) (search rules)
