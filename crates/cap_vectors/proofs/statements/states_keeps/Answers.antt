use Rattle.std.proofs.Common.{◌++◌, codes, refl, ◌∙◌}
use Rattle.cap_word.specs.Digits.{hex_digits}
use Rattle.cap_vectors.proofs.VectorLemmas.{front_of_two, keeps_address, keeps_word, same_keeps}
use Rattle.cap_vectors.proofs.statements.states_keeps.Goals as goal

pub returns-in_default-clause-no : goal.returns-in_default-clause-no
returns-in_default-clause-no c w address answer states =
    let there = keeps_word w address answer in
    absurd (c.in_default.ensures.value w (codes "keeps ") there.0 states.true_vector.in_range.0 refl (states.spelled ∙ there.1))

pub returns-in_default-number_at-clause-no : goal.returns-in_default-number_at-clause-no
returns-in_default-number_at-clause-no c w address answer states =
    let there = keeps_address w address answer in
    absurd (c.in_default-number_at.ensures.value address (codes "keeps " ++ hex_digits 32 w ++ codes " ") there.0 states.true_vector.in_range.1
    (front_of_two (codes "keeps ") 32 w 6 refl) (states.spelled ∙ there.1))

pub returns-clause-no : goal.returns-clause-no
returns-clause-no c w address answer states =
    let first = keeps_word w address answer in
    let second = keeps_address w address answer in
    let found = c.in-Some.ensures.value w (codes "keeps ") first.0 states.true_vector.in_range.0 refl (states.spelled ∙ first.1) in
    let also = c.in-Some-number_at.ensures.value address (codes "keeps " ++ hex_digits 32 w ++ codes " ") second.0 states.true_vector.in_range.1
    (front_of_two (codes "keeps ") 32 w 6 refl) (states.spelled ∙ second.1) in
    let written = c.write_keeps-length.ensures.line in
    let same = same_keeps c.args.line.now _ w c.in-Some.word.0 address c.in-Some-number_at.address answer written.0
    found also states written.1 in
    c.is_same.ensures.1 same
