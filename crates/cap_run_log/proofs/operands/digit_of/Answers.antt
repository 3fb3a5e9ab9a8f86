use Rattle.std.proofs.Common.{◌≡◌, ℕ, ◌+◌, ◌-◌, ◌*◌, ◌/◌, ◌%◌, ◌<◌, List, [], ◌∷◌, ◌++◌, ap, refl, sym, ◌∙◌, arith, rules, codes}
use Rattle.std.proofs.lemmas.{Fmt.decimal_digit, Nat.le_bytes_4}
use Rattle.cap_run_log.proofs.operands.digit_of.Goals as goal

-- what is taken from the number of four bytes, if it is a digit
is_name : (word least : ℕ) → word < 4294967296 → least ≡ 812802931
    → let apart = (word + (4294967296 - least)) % 4294967296 in
    let digit = apart / 16777216 + apart * 256 % 4294967296 in digit < 10 → word ≡ 7496563 + (48 + digit) * 16777216
is_name word least fits is = λ few. omega arith

pub returns : goal.returns
returns c = λ few.
    let name = c.args.name.now in
    let word = c.from_le_bytes-word.result in
    let word_is = is_name word _ (omega arith) c.from_le_bytes.ensures few in
    sym (le_bytes_4 name word (search rules) (search rules) c.from_le_bytes-word.ensures)
    ∙ le_bytes_4 (115 ∷ 99 ∷ 114 ∷ (48 + _) ∷ []) word refl (λ i. search rules) word_is
    ∙ ap (λ (ds : List ℕ). codes "scr" ++ ds) (sym (decimal_digit _ few))
