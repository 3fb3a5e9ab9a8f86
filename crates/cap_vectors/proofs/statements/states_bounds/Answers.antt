use Rattle.std.proofs.Common.{codes, refl, ◌∙◌}
use Rattle.cap_vectors.proofs.VectorLemmas.{bounds_word, same_bounds}
use Rattle.cap_vectors.proofs.statements.states_bounds.Goals as goal

pub returns-in_default-clause-no : goal.returns-in_default-clause-no
returns-in_default-clause-no c w base top answer states =
    let there = bounds_word w base top answer in
    absurd (c.in_default.ensures.value w (codes "bounds ") there.0 states.true_vector.in_range.0 refl (states.spelled ∙ there.1))

pub returns-clause-no : goal.returns-clause-no
returns-clause-no c w base top answer states =
    let there = bounds_word w base top answer in
    let found = c.in-Some.ensures.value w (codes "bounds ") there.0 states.true_vector.in_range.0 refl (states.spelled ∙ there.1) in
    let written = c.write_bounds-length.ensures.line in
    let same = same_bounds c.args.line.now _ w c.in-Some.word.0 base top _ _ answer written.0 found states written.1 in
    c.is_same.ensures.1 same
