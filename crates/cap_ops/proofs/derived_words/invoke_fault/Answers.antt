use Rattle.std.proofs.Common.{◌≡◌, ◌==◌, true, rules}
use Rattle.std.proofs.lemmas.Bool.{and_parts}
use Rattle.cap_ops.specs.{DerivedWords.{is_invoked, is_opened}, Permissions.{unsealed_type, with_type}}
use Rattle.cap_ops.proofs.DerivedLemmas.{code_within, data_within}
use Rattle.cap_ops.proofs.derived_words.invoke_fault.Goals as goal

pub returns-else-not-is_invoked-clause-code_within : goal.returns-else-not-is_invoked-clause-code_within
returns-else-not-is_invoked-clause-code_within c _ =
    let is : is_invoked c.args.code_cap.word.0 c.args.data_cap.word.0 c.args.code_word.0 c.args.data_word.0 ≡ true = search rules in
    let parts = and_parts (is_opened c.args.code_cap.word.0 c.args.code_word.0) (c.args.data_word.0 == with_type c.args.data_cap.word.0 unsealed_type) is in
    code_within c.args.code_cap c.args.code_word (search rules) parts.0

pub returns-else-not-is_invoked-clause-data_within : goal.returns-else-not-is_invoked-clause-data_within
returns-else-not-is_invoked-clause-data_within c _ =
    let is : is_invoked c.args.code_cap.word.0 c.args.data_cap.word.0 c.args.code_word.0 c.args.data_word.0 ≡ true = search rules in
    let parts = and_parts (is_opened c.args.code_cap.word.0 c.args.code_word.0) (c.args.data_word.0 == with_type c.args.data_cap.word.0 unsealed_type) is in
    data_within c.args.data_cap c.args.data_word (search rules) parts.1
