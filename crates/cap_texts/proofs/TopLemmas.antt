-- The seventeen digits of the end of an allocator's root.
use Rattle.std.proofs.Common.{◌≡◌, ℕ, ◌^◌, ◌<◌, ◌≤◌, ◌/◌, ◌%◌, List, ◌∷◌, ◌++◌, ap, ◌∙◌, refl, arith, codes, inl, inr}
use Rattle.std.proofs.lemmas.Bool.{cases_lt}
use Rattle.cap_word.specs.Digits.{hex_digit, hex_digits}
use Rattle.cap_word.proofs.DigitLemmas.{hex_digits-suc}
use Rattle.cap_log.specs.Parts.{BeginsWithNone, BeginsWithout}
use Rattle.cap_texts.specs.declared.tops.Top.{Top}

-- those of a number of 64 bits, and of 2 ^ 64
pub seventeen : (n : ℕ) → n < 2 ^ 64 → hex_digits 17 n ≡ 48 ∷ hex_digits 16 n
seventeen n small =
    let zero : n / 16 ^ 16 % 16 ≡ 0 = omega arith in
    hex_digits-suc 16 n ∙ ap (λ (d : ℕ). hex_digit d ∷ hex_digits 16 n) zero

pub seventeen-end : hex_digits 17 (2 ^ 64) ≡ codes "10000000000000000"
unfolding hex_digits
seventeen-end = refl

-- no end of a root where neither stands
pub no_top : (end : ℕ) (bytes : List ℕ) → ((n : ℕ) (rest : List ℕ) → n < 2 ^ 64 → bytes ≡ 48 ∷ (hex_digits 16 n ++ end ∷ rest) → ⊥)
    → BeginsWithout (codes "10000000000000000") end bytes
    → BeginsWithNone (λ (top : Top). top.0 ≤ 2 ^ 64) (λ top. hex_digits 17 top.0) end bytes
no_top end bytes low greatest top rest begins = elim (cases_lt top.0 (2 ^ 64)) [
  | inl below ↦ low top.0 rest below (begins.1 ∙ ap (λ (digits : List ℕ). digits ++ end ∷ rest) (seventeen top.0 below))
  | inr from ↦ greatest rest
      (begins.1 ∙ ap (λ (digits : List ℕ). digits ++ end ∷ rest) (ap (hex_digits 17) (omega (arith, begins.0)) ∙ seventeen-end))
]
