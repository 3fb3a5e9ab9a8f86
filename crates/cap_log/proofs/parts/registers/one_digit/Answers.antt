use Rattle.std.specs.Int.{from_le_bytes}
use Rattle.std.proofs.Common.{◌≡◌, ◌↔◌, ℕ, ◌+◌, ◌-◌, ◌*◌, ◌/◌, ◌%◌, ◌<◌, [], ◌∷◌, take, sym, ap, refl, ◌∙◌, arith, rules, w32}
use Rattle.std.proofs.lemmas.{Fmt.decimal_digit, Nat.le_bytes_4}
use Rattle.cap_log.proofs.Cuts.{rejoined}
use Rattle.cap_log.proofs.parts.registers.one_digit.Goals as goal

-- what is taken from a number whose first three bytes are such a name and its end
is_name : (word least end n : ℕ) → end < 256 → n < 10 → least ≡ 3171072 + end * 16777216
    → let apart = (word * 256 % 4294967296 + (4294967296 - least)) % 4294967296 in
    (apart / 65536 + apart * 65536 % 4294967296 ≡ n) ↔ (word % 16777216 ≡ 99 + (48 + n) * 256 + end * 65536)
is_name word least end n ended small is = (λ e. omega arith, λ e. omega arith)

pub returns : goal.returns
returns c = λ n small.
    let front = c.args.front.now in
    let word = c.from_le_bytes-word.result in
    let number = is_name word _ c.args.end n (omega arith) small c.from_le_bytes-least.ensures in
    rw (decimal_digit n small) (
      λ is.
          let low = number.0 is in
          ap (take 3) (sym (le_bytes_4 front word (search rules) (search rules) c.from_le_bytes-word.ensures)
          ∙ le_bytes_4 (99 ∷ (48 + n) ∷ c.args.end ∷ (word / 16777216) ∷ []) word refl (λ i. search rules) (omega arith)),
      λ is.
          let word_is = c.from_le_bytes-word.ensures ∙ ap (from_le_bytes w32) (rejoined 3 front _ _ (sym is) refl) in
          number.1 (omega arith),
    )
