-- The test of soundness.
use Rattle.std.proofs.Common.{◌≡◌, ℕ, ◌+◌, ◌^◌, ◌≤◌, Bool, eqb, leb, Decides, inl, inr, sym, ◌∙◌, arith}
use Rattle.std.proofs.lemmas.Bool.{false≢true, Decides.{same_from_decides, leb_tells, Decides-and, Decides-eqb}}
use Rattle.cap_bounds.specs.Bounds.{base_of, top_of, length_of, IsSound, is_sound}

Decides-leb : (a b : ℕ) → Decides (leb a b) (a ≤ b)
Decides-leb a b =
    elim (leb_tells a b) [
      | inl holds ↦ (λ test. holds.1, λ fact. holds.0)
      | inr fails ↦ (λ test. absurd (false≢true (sym fails.0 ∙ test)), λ fact. absurd (omega arith))
    ]

-- what answers whether a word is sound is the test
pub is_sound-from : (answer : Bool) (w : ℕ) → Decides answer (IsSound w) → answer ≡ is_sound w
is_sound-from answer w decides =
    same_from_decides answer (is_sound w) decides
    (Decides-and (eqb (base_of w + length_of w) (top_of w)) (leb (top_of w) (2 ^ 64))
    (Decides-eqb (base_of w + length_of w) (top_of w)) (Decides-leb (top_of w) (2 ^ 64)))
