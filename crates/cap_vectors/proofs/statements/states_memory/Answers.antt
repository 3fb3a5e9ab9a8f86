use Rattle.std.proofs.Common.{codes, refl, ◌∙◌}
use Rattle.cap_vectors.proofs.VectorLemmas.{memory_word, same_memory}
use Rattle.cap_vectors.proofs.statements.states_memory.Goals as goal

pub returns-in_default-clause-no : goal.returns-in_default-clause-no
returns-in_default-clause-no c w bytes states =
    let there = memory_word w bytes in
    absurd (c.in_default.ensures.value w (codes "memory ") there.0 states.true_vector.in_range.0 refl (states.spelled ∙ there.1))

pub returns-clause-no : goal.returns-clause-no
returns-clause-no c w bytes states =
    let there = memory_word w bytes in
    let found = c.in-Some.ensures.value w (codes "memory ") there.0 states.true_vector.in_range.0 refl (states.spelled ∙ there.1) in
    let same = same_memory c.args.line.now _ w c.in-Some.word.0 bytes _ found states c.write_memory-length.ensures.line in
    c.is_same.ensures.1 same
