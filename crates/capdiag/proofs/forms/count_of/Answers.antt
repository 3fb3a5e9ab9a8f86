use Rattle.std.proofs.Common.{◌≡◌, ◌≢◌, ◌<◌, ◌≤◌, ◌+◌, ◌-◌, ◌*◌, ℕ, List, [], ◌∷◌, length, get_or, arith, true, None, Some}
use Rattle.std.proofs.lemmas.Grind.{common_steps}
use Rattle.capdiag.specs.Forms.{count_of, is_digit}
use Rattle.capdiag.proofs.forms.count_of.Goals as goal

-- a first digit of two isn't 0
leading_zero : (word : List ℕ) → 2 ≤ length word → length word < 3 → get_or word 0 0 ≡ 48 → None ≡ count_of word
leading_zero [] two three zero = absurd (omega arith)
leading_zero (a ∷ []) two three zero = absurd (omega arith)
leading_zero (a ∷ b ∷ []) two three zero = grind (arith, common_steps)
leading_zero (a ∷ b ∷ d ∷ more) two three zero = absurd (omega arith)

two_digits : (word : List ℕ) → 2 ≤ length word → length word < 3 → get_or word 0 0 ≢ 48 → true ≡ is_digit (get_or word 0 0)
    → true ≡ is_digit (get_or word 1 0) → Some (10 * (get_or word 0 0 - 48) + (get_or word 1 0 - 48)) ≡ count_of word
two_digits [] two three ten a_digit b_digit = absurd (omega arith)
two_digits (a ∷ []) two three ten a_digit b_digit = absurd (omega arith)
two_digits (a ∷ b ∷ []) two three ten a_digit b_digit = grind (arith, common_steps)
two_digits (a ∷ b ∷ d ∷ more) two three ten a_digit b_digit = absurd (omega arith)

pub returns-in-len2 : goal.returns-in-len2
returns-in-len2 c =
    let word = c.args.word.now in
    let ten : get_or word 0 0 ≢ 48 = omega arith in
    record { value = two_digits word c.in-len2.len_at_least c.in-len2.len_below ten c.if-is_digit-2.ensures.value c.if-is_digit-3.ensures.value }

pub returns-in_default-5 : goal.returns-in_default-5
returns-in_default-5 c =
    let word = c.args.word.now in
    let zero : get_or word 0 0 ≡ 48 = omega arith in
    record { value = leading_zero word c.in-len2.len_at_least c.in-len2.len_below zero }
