-- A word and its sixteen bytes in memory: each gives the other back.
use Rattle.std.specs.Int.{w128, to_le_bytes, from_le_bytes, bytes_low_first, byte_at}
use Rattle.std.specs.Int.Bits.{xor_assoc, xor_self, xor_zero_r}
use Rattle.std.proofs.Common.{◌≡◌, ◌+◌, ◌*◌, ◌/◌, ◌%◌, ◌^◌, ◌<◌, ◌∷◌, ◌∙◌, ℕ, zero, suc, List, [], length, get_or, drop}
use Rattle.std.proofs.Common.{sym, ap, refl, arith, lit<, pow-suc, div-one, pow-add, bit_xor}
use Rattle.std.proofs.{Math.Nat.{div-div-eq-div-mul, pow-zero, pow-succ'}, lemmas.List.{at_drop_more, at_drop_all}}
use Rattle.std.proofs.lemmas.Nat.{xor_lt}
use lib.Lanes.{digits_l}
use Rattle.cap_word.specs.{Memory.{low_bytes, number_of, memory_byte, memory_of, stored_word}, Word.null_word}

xor_twice : (a b : ℕ) → bit_xor (bit_xor a b) b ≡ a
xor_twice a b = xor_assoc a b b ∙ ap (bit_xor a) (xor_self b) ∙ xor_zero_r a

pub length-low_bytes : (k n : ℕ) → length (low_bytes k n) ≡ k
unfolding low_bytes
length-low_bytes zero n = refl
length-low_bytes (suc k) n = ap suc (length-low_bytes k (n / 256))

-- a byte of a number
pub byte_at_is : (i n : ℕ) → byte_at i n ≡ n / 256 ^ i % 256
byte_at_is zero n = ap (λ (x : ℕ). x % 256) (sym (ap (λ (x : ℕ). n / x) (pow-zero 256) ∙ div-one n))
byte_at_is (suc i) n = refl

pub get_or-low_bytes : (k n i : ℕ) → i < k → get_or (low_bytes k n) i 0 ≡ n / 2 ^ (8 * i) % 256
unfolding low_bytes
get_or-low_bytes zero n i h = absurd (omega arith)
get_or-low_bytes (suc k) n zero h = ap (λ (x : ℕ). x % 256) (sym (div-one n))
get_or-low_bytes (suc k) n (suc i) h =
    let e : 2 ^ (8 * suc i) ≡ 256 * 2 ^ (8 * i) = ap (λ (x : ℕ). 2 ^ x) (let f : 8 * suc i ≡ 8 + 8 * i = omega arith in f)
    ∙ pow-add 2 8 (8 * i) in
    get_or-low_bytes k (n / 256) i (omega arith)
    ∙ ap (λ (x : ℕ). x % 256) (div-div-eq-div-mul n 256 (2 ^ (8 * i)) ∙ ap (λ (x : ℕ). n / x) (sym e))

pub number_of-low_bytes : (k n : ℕ) → n < 256 ^ k → number_of (low_bytes k n) ≡ n
unfolding low_bytes number_of
number_of-low_bytes zero n h = let e : 256 ^ 0 ≡ 1 = pow-zero 256 in omega arith
number_of-low_bytes (suc k) n h =
    let e : 256 ^ suc k ≡ 256 * 256 ^ k = pow-succ' 256 k in
    let below : n / 256 < 256 ^ k = omega arith in
    omega (arith, number_of-low_bytes k (n / 256) below)

pub low_bytes-number_of : (bytes : List ℕ) → ((i : ℕ) → get_or bytes i 0 < 256) → low_bytes (length bytes) (number_of bytes) ≡ bytes
unfolding low_bytes number_of
low_bytes-number_of [] h = refl
low_bytes-number_of (x ∷ xs) h =
    let small : x < 256 = h 0 in
    let low : (x + 256 * number_of xs) % 256 ≡ x = omega arith in
    let high : (x + 256 * number_of xs) / 256 ≡ number_of xs = omega arith in
    ap (λ y. y ∷ low_bytes (length xs) ((x + 256 * number_of xs) / 256)) low ∙ ap (λ y. x ∷ low_bytes (length xs) y) high
    ∙ ap (λ y. x ∷ y) (low_bytes-number_of xs (λ i. h (suc i)))

-- the first byte and the others
pub number_of_drop : (bytes : List ℕ) (i : ℕ) → i < length bytes
    → number_of (drop i bytes) ≡ get_or bytes i 0 + 256 * number_of (drop (i + 1) bytes)
unfolding number_of
number_of_drop bytes i h = at_drop_more number_of bytes i 0 h

number_of_end : (bytes : List ℕ) → length bytes ≡ 16 → number_of (drop 16 bytes) ≡ 0
unfolding number_of
number_of_end bytes h = at_drop_all number_of bytes 16 (omega arith)

pub from_le_bytes_is : (bytes : List ℕ) → length bytes ≡ 16 → from_le_bytes w128 bytes ≡ number_of bytes
from_le_bytes_is bytes h =
    let step : (i : ℕ) → i < 16
    → number_of (drop i bytes)
    ≡ get_or bytes i 0 + 256 * number_of (drop (i + 1) bytes) = λ i p. number_of_drop bytes i (omega arith) in
    omega (
      arith,
      step 0 (omega arith),
      step 1 (omega arith),
      step 2 (omega arith),
      step 3 (omega arith),
      step 4 (omega arith),
      step 5 (omega arith),
      step 6 (omega arith),
      step 7 (omega arith),
      step 8 (omega arith),
      step 9 (omega arith),
      step 10 (omega arith),
      step 11 (omega arith),
      step 12 (omega arith),
      step 13 (omega arith),
      step 14 (omega arith),
      step 15 (omega arith),
      number_of_end bytes h,
    )

-- the lanes that std's conversion of a vector gives
pub lanes_are : (k n : ℕ) → digits_l 256 k n ≡ low_bytes k n
unfolding low_bytes
lanes_are zero n = refl
lanes_are (suc k) n = ap (λ rest. n % 256 ∷ rest) (lanes_are k (n / 256))

-- a word's bytes hold the word
pub stored_word-memory_of : (w : ℕ) → w < 2 ^ 128 → stored_word (memory_of w) ≡ w
stored_word-memory_of w h =
    let small : bit_xor w null_word < 2 ^ 128 = xor_lt 128 w null_word h (lit< tt) in
    let e : 256 ^ 16 ≡ 2 ^ 128 = refl in
    ap (λ (x : ℕ). bit_xor x null_word) (number_of-low_bytes 16 (bit_xor w null_word) (omega arith)) ∙ xor_twice w null_word

-- sixteen bytes are those of the word that they hold
pub memory_of-stored_word : (bytes : List ℕ) → length bytes ≡ 16 → ((i : ℕ) → get_or bytes i 0 < 256)
    → memory_of (stored_word bytes) ≡ bytes
memory_of-stored_word bytes h small =
    ap (low_bytes 16) (xor_twice (number_of bytes) null_word) ∙ ap (λ (k : ℕ). low_bytes k (number_of bytes)) (sym h)
    ∙ low_bytes-number_of bytes small

pub length-memory_of : (w : ℕ) → length (memory_of w) ≡ 16
length-memory_of w = length-low_bytes 16 (bit_xor w null_word)

pub get_or-memory_of : (w i : ℕ) → i < 16 → get_or (memory_of w) i 0 ≡ memory_byte w i
get_or-memory_of w i h = get_or-low_bytes 16 (bit_xor w null_word) i h
