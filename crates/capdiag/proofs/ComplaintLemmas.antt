-- The front of a word.
use Rattle.std.proofs.Common.{◌≡◌, ℕ, inl, inr, List, length, take, min, sym, ap, ◌∙◌, arith, take_all}
use Rattle.std.proofs.lemmas.Bool.{cases_lt}

-- at most 64 bytes of a text
pub take_few : (text : List ℕ) (n : ℕ) → n ≡ min (length text) 64 → take n text ≡ take 64 text
take_few text n is = elim (cases_lt 64 (length text)) [
  | inl more ↦ let same : n ≡ 64 = omega (arith, is) in ap (λ (m : ℕ). take m text) same
  | inr few ↦ take_all n text (omega (arith, is)) ∙ sym (take_all 64 text few)
]
