-- Registers at the front of some bytes.
use Rattle.std.proofs.Common.{◌≡◌, ℕ, ◌<◌, ◌≤◌, List, [], ◌∷◌, ◌++◌, length, take, drop, inl, inr, sym, ap, ◌∙◌, arith, append_assoc, refl}
use Rattle.std.proofs.lemmas.{Bool.cases_lt, Fmt.decimal_digit}
use Rattle.cap_log.specs.{Lines.{IsRegister, register_spelling}, Parts.{Begins, BeginsWithNone}}
use Rattle.cap_log.proofs.{Cuts.rejoined, FewLemmas.two}

-- a name and its end are so many bytes at the front
pub in_front : (k end n : ℕ) (bytes : List ℕ) → n ≤ 31 → take k bytes ≡ register_spelling n ++ end ∷ []
    → Begins IsRegister register_spelling end bytes n (drop k bytes)
in_front k end n bytes few e =
    (few, rejoined k bytes _ _ (sym e) refl ∙ append_assoc (register_spelling n) (end ∷ []) (drop k bytes))

-- no name is there if none of one digit is, and none of two
pub no_register : (end : ℕ) (bytes : List ℕ)
    → ((n : ℕ) → n < 10 → 3 ≤ length bytes → take 3 bytes ≡ register_spelling n ++ end ∷ [] → ⊥)
    → ((n : ℕ) → 10 ≤ n → n ≤ 31 → 4 ≤ length bytes → take 4 bytes ≡ register_spelling n ++ end ∷ [] → ⊥)
    → BeginsWithNone IsRegister register_spelling end bytes
no_register end bytes no_one no_two n rest begins = elim (cases_lt n 10) [
  | inl small ↦
      let whole = rw (decimal_digit n small) at begins.1 in
      no_one n small (omega (arith, ap length whole)) (rw (decimal_digit n small) (ap (take 3) whole))
  | inr great ↦
      let name = two n great (omega (arith, begins.0)) in
      let whole = rw name at begins.1 in
      no_two n great begins.0 (omega (arith, ap length whole)) (rw name (ap (take 4) whole))
]
