use Rattle.std.specs.Int.{from_le_bytes}
use Rattle.std.proofs.Common.{◌≡◌, ◌↔◌, ℕ, ◌+◌, ◌-◌, ◌*◌, ◌/◌, ◌%◌, ◌<◌, ◌≤◌, [], ◌∷◌, sym, ap, refl, ◌∙◌, arith, rules, w32}
use Rattle.std.proofs.lemmas.Nat.{le_bytes_4}
use Rattle.cap_log.proofs.FewLemmas.{two}
use Rattle.cap_log.proofs.parts.registers.two_digits.Goals as goal

-- what is taken from the number of such a name and its end
is_name : (word least end n : ℕ) → word < 4294967296 → end < 256 → 10 ≤ n → n ≤ 31 → least ≡ 3158115 + end * 16777216
    → let apart = (word + (4294967296 - least)) % 4294967296 in
    let digits = apart / 256 + apart * 16777216 % 4294967296 in
    (digits < 2560) × (10 * (digits % 256) + digits / 256 ≡ n)
    ↔ (word ≡ 99 + (48 + n / 10) * 256 + (48 + n % 10) * 65536 + end * 16777216)
is_name word least end n fits ended some few is = (λ e. omega arith, λ e. (omega arith, omega arith))

pub returns-then-digits-lt2560 : goal.returns-then-digits-lt2560
returns-then-digits-lt2560 c = λ n some few.
    let number = is_name c.from_le_bytes-word.result _ c.args.end n (omega arith) (omega arith) some few c.from_le_bytes-least.ensures in
    rw (two n some (omega arith)) (
      λ is.
          sym (le_bytes_4 c.args.front.now _ (search rules) (search rules) c.from_le_bytes-word.ensures)
          ∙ le_bytes_4 (99 ∷ (48 + n / 10) ∷ (48 + n % 10) ∷ c.args.end ∷ []) _ refl (λ i. search rules) (number.0 (c.if-digits-lt2560.true, is)),
      λ is. (number.1 (c.from_le_bytes-word.ensures ∙ ap (from_le_bytes w32) is)).1,
    )

pub returns-else-digits-lt2560 : goal.returns-else-digits-lt2560
returns-else-digits-lt2560 c = λ n some few.
    let number = is_name c.from_le_bytes-word.result _ c.args.end n (omega arith) (omega arith) some few c.from_le_bytes-least.ensures in
    rw (two n some (omega arith)) (
      λ is. absurd (omega arith),
      λ is. absurd (omega (arith, number.1 (c.from_le_bytes-word.ensures ∙ ap (from_le_bytes w32) is), c.if-digits-lt2560.false)),
    )
