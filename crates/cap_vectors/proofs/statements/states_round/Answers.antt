use Rattle.std.proofs.Common.{◌++◌, codes, refl, ◌∙◌, arith}
use Rattle.cap_word.specs.Digits.{hex_digits}
use Rattle.cap_vectors.proofs.VectorLemmas.{front_of_two, round_base, round_length, same_round}
use Rattle.cap_vectors.proofs.statements.states_round.Goals as goal

pub returns-in_default-clause-no : goal.returns-in_default-clause-no
returns-in_default-clause-no c base size base_rounded top_rounded ie e exact states =
    let there = round_base base size base_rounded top_rounded ie e exact in
    absurd (c.in_default.ensures.value base (codes "round ") there.0 states.true_vector.in_range.0 refl (states.spelled ∙ there.1))

pub returns-in_default-number_at-clause-no : goal.returns-in_default-number_at-clause-no
returns-in_default-number_at-clause-no c base size base_rounded top_rounded ie e exact states =
    let there = round_length base size base_rounded top_rounded ie e exact in
    absurd (c.in_default-number_at.ensures.value size (codes "round " ++ hex_digits 16 base ++ codes " ") there.0 states.true_vector.in_range.1
    (front_of_two (codes "round ") 16 base 6 refl) (states.spelled ∙ there.1))

pub returns-then-from-gt-GREATEST_TOP-clause-no : goal.returns-then-from-gt-GREATEST_TOP-clause-no
returns-then-from-gt-GREATEST_TOP-clause-no c base size base_rounded top_rounded ie e exact states =
    let first = round_base base size base_rounded top_rounded ie e exact in
    let second = round_length base size base_rounded top_rounded ie e exact in
    let found = c.in-Some.ensures.value base (codes "round ") first.0 states.true_vector.in_range.0 refl (states.spelled ∙ first.1) in
    let also = c.in-Some-number_at.ensures.value size (codes "round " ++ hex_digits 16 base ++ codes " ") second.0 states.true_vector.in_range.1
    (front_of_two (codes "round ") 16 base 6 refl) (states.spelled ∙ second.1) in
    absurd (omega (arith, found, also, states.true_vector.holds.0, c.if-from-gt-GREATEST_TOP.true, c.from.ensures, c.from-2.ensures))

pub returns-clause-no : goal.returns-clause-no
returns-clause-no c base size base_rounded top_rounded ie e exact states =
    let first = round_base base size base_rounded top_rounded ie e exact in
    let second = round_length base size base_rounded top_rounded ie e exact in
    let found = c.in-Some.ensures.value base (codes "round ") first.0 states.true_vector.in_range.0 refl (states.spelled ∙ first.1) in
    let also = c.in-Some-number_at.ensures.value size (codes "round " ++ hex_digits 16 base ++ codes " ") second.0 states.true_vector.in_range.1
    (front_of_two (codes "round ") 16 base 6 refl) (states.spelled ∙ second.1) in
    let written = c.write_round-end.ensures.line in
    let same =
    same_round c.args.line.now _ base size c.in-Some.base c.in-Some-number_at.length base_rounded top_rounded _ _ ie _ e _ exact written.0
    found also states written.1 in
    c.is_same.ensures.1 same
