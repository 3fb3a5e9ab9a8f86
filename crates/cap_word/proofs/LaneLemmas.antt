-- Digits that were read as the lanes of one vector, and what their mask says.
use Rattle.std.specs.{Int.from_be_bytes, List.range_with_len}
use Rattle.std.proofs.Common.{◌≡◌, ◌+◌, ◌-◌, ◌*◌, ◌/◌, ◌%◌, ◌^◌, ◌<◌, ◌≤◌, ◌||◌, ◌∷◌, ◌++◌, ◌∙◌, ℕ, suc, zero, Bool}
use Rattle.std.proofs.Common.{true, false, cond, eqb, List, [], map, length, take, get_or, replicate, w8, w64}
use Rattle.std.proofs.Common.{refl, sym, ap, subst, arith, eqb-true, pow-suc, pow_pos}
use Rattle.std.proofs.Math.{Arith.mod-mul, Nat.zero-mod}
use Rattle.std.proofs.lemmas.{Bool.{agree_below, agree_below_at, false≢true}, List.length-map}
use Rattle.std.proofs.lemmas.{Nat.{and_le_r, be_bytes_8, or_shifted}, Simd.{swz_l, pick_l_whole, mask_l-mod}}
use lib.Bits.{bit_and, bit_or}
use lib.Lanes.{sel_l, mask_l, zip2, top, pick_l}
use Rattle.hex.specs.Hex.{encode_with, encode_lower}
use Rattle.cap_word.specs.Digits.{hex_digit, hex_digits}
use Rattle.cap_word.proofs.{DigitLemmas.{front_digits, hex_of_bytes}, WritingLemmas.both}

-- the low bits of a mask: its lowest, and those above
mask_next : (b m k : ℕ) → b < 2 → (b + 2 * m) % 2 ^ suc k ≡ m % 2 ^ k * 2 + b
mask_next b m k few =
    let half : (b + 2 * m) / 2 ≡ m = omega arith in
    let low : (b + 2 * m) % 2 ≡ b = omega arith in
    ap (λ (p : ℕ). (b + 2 * m) % p) (pow-suc 2 k) ∙ mod-mul (b + 2 * m) (pow_pos k) (omega arith)
    ∙ ap (λ (q : ℕ). q % 2 ^ k * 2 + (b + 2 * m) % 2) half ∙ ap (λ (r : ℕ). m % 2 ^ k * 2 + r) low

bit_few : (b : Bool) → cond b 1 0 < 2
bit_few true = omega arith
bit_few false = omega arith

-- where none of the low bits of the mask is set, each of the first lanes is what f gives for it
all_digits : (p : ℕ → Bool) (f : ℕ → ℕ) → ((b : ℕ) → b < 256 → p b ≡ false → b ≡ f b) → (k : ℕ) (v : List ℕ)
    → ((i : ℕ) → get_or v i 0 < 256) → mask_l (map p v) % 2 ^ k ≡ 0 → take k v ≡ take k (map f v)
all_digits p f same zero v small h = refl
all_digits p f same (suc k) [] small h = refl
all_digits p f same (suc k) (x ∷ v) small h =
    let both = sym (mask_next (cond (p x) 1 0) (mask_l (map p v)) k (bit_few (p x))) ∙ h in
    ap (λ y. y ∷ take k v) (same x (small 0) (first (p x) both))
    ∙ ap (λ r. f x ∷ r) (all_digits p f same k v (λ i. small (suc i)) (omega arith)) where
      first : (b : Bool) → mask_l (map p v) % 2 ^ k * 2 + cond b 1 0 ≡ 0 → b ≡ false
      first true e = absurd (omega arith)
      first false e = refl

-- and where the first lanes are digits, none is set
none_masked : (p : ℕ → Bool) → ((d : ℕ) → d < 16 → p (hex_digit d) ≡ false) → (k n : ℕ) (v : List ℕ) → take k v ≡ hex_digits k n
    → mask_l (map p v) % 2 ^ k ≡ 0
unfolding hex_digits
none_masked p known zero n v e = omega arith
none_masked p known (suc k) n [] e = zero-mod (2 ^ suc k)
none_masked p known (suc k) n (x ∷ v) e =
    let is : x ≡ hex_digit (n / 16 ^ k % 16) = cc in
    let first : p x ≡ false = ap p is ∙ known (n / 16 ^ k % 16) (omega arith) in
    let rest = none_masked p known k n v cc in
    mask_next (cond (p x) 1 0) (mask_l (map p v)) k (bit_few (p x)) ∙ rw (first, rest) refl

-- the byte of two digits
abbrev pair : ℕ → ℕ → ℕ
pair high low = bit_or (high * 16 % 256) low

pair-is : (high low : ℕ) → high < 16 → low < 16 → pair high low ≡ 16 * high + low
pair-is high low few small =
    let whole : high * 16 % 256 ≡ high * 2 ^ 4 = omega arith in
    rw whole (or_shifted high 4 low small ∙ omega arith)

-- the lanes, whatever the operations, the numbers and the table are
module _ (sub less add ne : ℕ → ℕ → ℕ) (nine most : ℕ) (table text : List ℕ) (long : length text ≡ 16) where
  abbrev over : ℕ → ℕ
  over x = sub (cond (top 7 (less x nine)) nine x) nine

  abbrev value : ℕ → ℕ
  value x = bit_and (add x (cond (top 7 (less (over x) most)) (over x) most)) 15

  abbrev is_other : ℕ → Bool
  is_other x = top 7 (ne (get_or (swz_l w8 16 table 0 (value x ∷ [])) 0 0) x)

  abbrev overs : List ℕ → List ℕ
  overs v = zip2 sub (sel_l (map (top 7) (zip2 less v (replicate 16 nine))) (replicate 16 nine) v) (replicate 16 nine)

  abbrev values : List ℕ → List ℕ
  values v = zip2 bit_and (zip2 add v (sel_l (map (top 7) (zip2 less (overs v) (replicate 16 most))) (overs v) (replicate 16 most)))
      (replicate 16 15)

  abbrev others : List ℕ → ℕ
  others v = mask_l (map (top 7) (zip2 ne (swz_l w8 16 table 0 (values v)) v)) % 2 ^ 64

  -- the bytes of eight pairs of lanes
  abbrev pairs : List ℕ → List ℕ
  pairs v = map (λ j. pair (get_or (v ++ v) (2 * j) 0) (get_or (v ++ v) (2 * j + 1) 0)) (range_with_len 0 8)

  one_by_one : pick_l 0 text (range_with_len 0 16) ≡ text
  one_by_one = pick_l_whole 0 text 16 long

  others-is : others text ≡ mask_l (map is_other text)
  others-is =
      ap others (sym one_by_one) ∙ ap (λ v. mask_l (map is_other v) % 2 ^ 64) one_by_one
      ∙ mask_l-mod (map is_other text) 64 (omega (arith, length-map text is_other))

  value-lt : (x : ℕ) → value x < 16
  value-lt x = omega (arith, and_le_r (add x (cond (top 7 (less (over x) most)) (over x) most)) 15)

  abbrev high : ℕ → ℕ
  high j = value (get_or text (2 * j) 0)

  abbrev low : ℕ → ℕ
  low j = value (get_or text (2 * j + 1) 0)

  is_pair : (j : ℕ) → pair (high j) (low j) ≡ 16 * high j + low j
  is_pair j = pair-is (high j) (low j) (value-lt (get_or text (2 * j) 0)) (value-lt (get_or text (2 * j + 1) 0))

  -- the pairs spell the digits of all the values
  two_by_two : (js : List ℕ) → encode_lower (map (λ j. pair (high j) (low j)) js) ≡ both (λ j. hex_digit (high j)) (λ j. hex_digit (low j)) js
  unfolding encode_with
  two_by_two [] = refl
  two_by_two (j ∷ js) =
      let first : pair (high j) (low j) / 16 ≡ high j = omega (arith, is_pair j, value-lt (get_or text (2 * j + 1) 0)) in
      let second : pair (high j) (low j) % 16 ≡ low j = omega (arith, is_pair j, value-lt (get_or text (2 * j + 1) 0)) in
      rw (first, second, two_by_two js) refl

  spelled : encode_lower (pairs (values text)) ≡ map (λ x. hex_digit (value x)) text
  spelled =
      ap (λ v. encode_lower (pairs (values v))) (sym one_by_one) ∙ two_by_two (range_with_len 0 8)
      ∙ ap (map (λ x. hex_digit (value x))) one_by_one

  small_pairs : (js : List ℕ) (i : ℕ) → get_or (map (λ j. pair (high j) (low j)) js) i 0 < 256
  small_pairs [] i = omega arith
  small_pairs (j ∷ js) zero = omega (arith, is_pair j, value-lt (get_or text (2 * j) 0), value-lt (get_or text (2 * j + 1) 0))
  small_pairs (j ∷ js) (suc i) = small_pairs js i

  pairs-lt : (i : ℕ) → get_or (pairs (values text)) i 0 < 256
  pairs-lt i = subst (λ v. get_or (pairs (values v)) i 0 < 256) one_by_one (small_pairs (range_with_len 0 8) i)

  -- where no other byte is among the first digits, the text begins with those of the number whose bytes the pairs are
  pub reads : agree_below (λ b. is_other b || eqb b (hex_digit (value b))) (λ _. true) 256 ≡ true → ((i : ℕ) → get_or text i 0 < 256)
      → (size p n : ℕ) → size ≤ 8 → p ≡ 2 ^ (2 * size) → others text % p ≡ 0 → n ≡ from_be_bytes w64 (pairs (values text))
      → take (2 * size) text ≡ hex_digits (2 * size) (n / 2 ^ (64 - 8 * size))
  reads test small size p n most power none is =
      let same : (b : ℕ) → b < 256 → is_other b ≡ false → b ≡ hex_digit (value b) = λ b lt clear.
      eqb-true b (hex_digit (value b)) (right (is_other b) _ clear (agree_below_at (λ b. is_other b || eqb b (hex_digit (value b))) (λ _. true) 256 b test lt)) in
      let clear = ap (λ (m : ℕ). m % 2 ^ (2 * size)) (sym others-is) ∙ ap (λ (q : ℕ). others text % q) (sym power) ∙ none in
      all_digits is_other (λ x. hex_digit (value x)) same (2 * size) text small clear
      ∙ ap (take (2 * size)) (sym spelled ∙ ap encode_lower (sym (be_bytes_8 (pairs (values text)) n refl pairs-lt is)) ∙ hex_of_bytes 8 n)
      ∙ front_digits size n most where
        right : (p q : Bool) → p ≡ false → (p || q) ≡ true → q ≡ true
        right true q e h = absurd (false≢true (sym e))
        right false q e h = h

  -- and where the text begins with the digits of a number, none is
  pub reads_all : agree_below (λ d. is_other (hex_digit d)) (λ _. false) 16 ≡ true
      → (k p n : ℕ) → p ≡ 2 ^ k → take k text ≡ hex_digits k n → others text % p ≡ 0
  reads_all test k p n power e =
      ap (λ (q : ℕ). others text % q) power ∙ ap (λ (m : ℕ). m % 2 ^ k) others-is
      ∙ none_masked is_other (λ d few. agree_below_at (λ d. is_other (hex_digit d)) (λ _. false) 16 d test few) k n text e
