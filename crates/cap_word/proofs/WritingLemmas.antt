-- Digits that were computed as the lanes of one vector from the bytes of a number.
use Rattle.std.specs.Int.{bytes_high_first}
use Rattle.std.proofs.Common.{◌≡◌, ◌/◌, ◌%◌, ◌<◌, ◌∷◌, ◌++◌, ◌∙◌, ℕ, suc, true, eqb, List, []}
use Rattle.std.proofs.{Common.{get_or, replicate, refl, ap, eqb-true, w8}, lemmas.{Bool.{agree_below, agree_below_at}, Simd.swz_l}}
use lib.Lanes.{zip2, pick_l}
use Rattle.hex.specs.Hex.{encode_with, encode_lower}
use Rattle.cap_word.specs.Digits.{hex_digit, hex_digits}
use Rattle.cap_word.proofs.DigitLemmas.{hex_of_bytes, IsBytes-bytes_high_first}

-- two digits for each byte
abbrev pub both : (ℕ → ℕ) → (ℕ → ℕ) → List ℕ → List ℕ
both high low [] = []
both high low (b ∷ bs) = high b ∷ low b ∷ both high low bs

-- they are its text, where they are the digits of every byte
both-is : (high low : ℕ → ℕ) → agree_below (λ b. eqb (high b) (hex_digit (b / 16))) (λ _. true) 256 ≡ true
    → agree_below (λ b. eqb (low b) (hex_digit (b % 16))) (λ _. true) 256 ≡ true
    → (bs : List ℕ) → ((i : ℕ) → get_or bs i 0 < 256) → both high low bs ≡ encode_lower bs
unfolding encode_with
both-is high low firsts seconds [] small = refl
both-is high low firsts seconds (b ∷ bs) small =
    let first = eqb-true (high b) (hex_digit (b / 16)) (agree_below_at (λ b. eqb (high b) (hex_digit (b / 16))) (λ _. true) 256 b firsts (small 0)) in
    let second = eqb-true (low b) (hex_digit (b % 16)) (agree_below_at (λ b. eqb (low b) (hex_digit (b % 16))) (λ _. true) 256 b seconds (small 0)) in
    rw (first, second, both-is high low firsts seconds bs (λ i. small (suc i))) refl

-- the lanes, whatever the two operations, the two numbers and the table are
module _ (shift mask : ℕ → ℕ → ℕ) (four fifteen : ℕ) (table : List ℕ) where
  abbrev lane : ℕ → ℕ
  lane b = get_or (swz_l w8 16 table 0 (mask b fifteen ∷ [])) 0 0

  abbrev pub lanes : List ℕ → List ℕ
  lanes v = swz_l w8 16 table 0 (zip2 mask (pick_l 0 (zip2 shift v (replicate 8 four) ++ v)
      (0 ∷ 8 ∷ 1 ∷ 9 ∷ 2 ∷ 10 ∷ 3 ∷ 11 ∷ 4 ∷ 12 ∷ 5 ∷ 13 ∷ 6 ∷ 14 ∷ 7 ∷ 15 ∷ [])) (replicate 16 fifteen))

  pub lanes-are : agree_below (λ b. eqb (lane (shift b four)) (hex_digit (b / 16))) (λ _. true) 256 ≡ true
      → agree_below (λ b. eqb (lane b) (hex_digit (b % 16))) (λ _. true) 256 ≡ true
      → (n : ℕ) (v : List ℕ) → v ≡ bytes_high_first 8 n → lanes v ≡ hex_digits 16 n
  lanes-are firsts seconds n v e =
      ap lanes e ∙ both-is (λ b. lane (shift b four)) lane firsts seconds (bytes_high_first 8 n)
      (IsBytes-bytes_high_first 8 n) ∙ hex_of_bytes 8 n
