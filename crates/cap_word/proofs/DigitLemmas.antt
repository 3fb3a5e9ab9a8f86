-- Hexadecimal digits of a fixed number: their length, their parts, and that they name one number.
use Rattle.std.specs.Int.{byte_at, bytes_high_first}
use Rattle.std.proofs.Common.{◌≡◌, ℕ, zero, suc, ◌+◌, ◌-◌, ◌*◌, ◌/◌, ◌%◌, ◌^◌, ◌<◌, ◌≤◌, ◌∷◌, length, take, ap, sym}
use Rattle.std.proofs.Common.{subst, ◌∙◌, refl, arith, lit<, pow-add, pow_pos}
use Rattle.std.proofs.Math.Nat as nat
use Rattle.hex.specs.Hex.{encode_with, encode_lower, IsBytes}
use Rattle.cap_word.specs.Digits.{hex_digit, hex_digits}
use Rattle.cap_word.proofs.Bytes.{byte_at_is}

-- there are k of them
pub length-hex_digits : (k n : ℕ) → length (hex_digits k n) ≡ k
unfolding hex_digits
length-hex_digits zero n = refl
length-hex_digits (suc k) n = ap suc (length-hex_digits k n)

-- the first digit, and the others
pub hex_digits-suc : (k n : ℕ) → hex_digits (suc k) n ≡ hex_digit (n / 16 ^ k % 16) ∷ hex_digits k n
unfolding hex_digits
hex_digits-suc k n = refl

-- a power of 256 is one of 16
pub pow_256 : (k : ℕ) → 256 ^ k ≡ 16 ^ (2 * k)
pow_256 zero = refl
pow_256 (suc k) =
    let twice : 2 * suc k ≡ suc (suc (2 * k)) = omega arith in
    rw twice (omega (arith, nat.pow-suc 256 k, pow_256 k, nat.pow-suc 16 (suc (2 * k)), nat.pow-suc 16 (2 * k)))

-- and of 2
pub pow_bytes : (k : ℕ) → 256 ^ k ≡ 2 ^ (8 * k)
pow_bytes zero = refl
pow_bytes (suc k) =
    let more : 8 * suc k ≡ 8 + 8 * k = omega arith in
    nat.pow-succ' 256 k ∙ ap (λ (p : ℕ). 256 * p) (pow_bytes k) ∙ sym (ap (λ (i : ℕ). 2 ^ i) more ∙ pow-add 2 8 (8 * k))

-- the first digits of a number
hex_digits-front : (j k n : ℕ) → take j (hex_digits (j + k) n) ≡ hex_digits j (n / 16 ^ k)
unfolding hex_digits
hex_digits-front zero k n = refl
hex_digits-front (suc j) k n =
    let more : suc j + k ≡ suc (j + k) = omega arith in
    let power : 16 ^ (j + k) ≡ 16 ^ k * 16 ^ j = pow-add 16 j k ∙ nat.mul_comm (16 ^ j) (16 ^ k) in
    let quotient = sym (nat.div-div-eq-div-mul n (16 ^ k) (16 ^ j)) in
    rw (more, power, quotient, hex_digits-front j k n) refl

-- those of so many bytes are the digits of the number without its lower bits
pub front_digits : (size n : ℕ) → size ≤ 8 → take (2 * size) (hex_digits 16 n) ≡ hex_digits (2 * size) (n / 2 ^ (64 - 8 * size))
front_digits size n few =
    let all : 2 * size + 2 * (8 - size) ≡ 16 = omega arith in
    let bits : 8 * (8 - size) ≡ 64 - 8 * size = omega arith in
    ap (λ (k : ℕ). take (2 * size) (hex_digits k n)) (sym all) ∙ hex_digits-front (2 * size) (2 * (8 - size)) n
    ∙ ap (λ (p : ℕ). hex_digits (2 * size) (n / p)) (sym (pow_256 (8 - size)) ∙ pow_bytes (8 - size) ∙ ap (λ (k : ℕ). 2 ^ k) bits)

-- and that number has so many bytes
pub front-small : (size n : ℕ) → size ≤ 8 → n < 2 ^ 64 → n / 2 ^ (64 - 8 * size) < 256 ^ size
front-small size n few small =
    let all : 8 * size + (64 - 8 * size) ≡ 64 = omega arith in
    let whole : 2 ^ 64 ≡ 256 ^ size * 2 ^ (64 - 8 * size) = ap (λ (k : ℕ). 2 ^ k) (sym all) ∙ pow-add 2 (8 * size) (64 - 8 * size)
    ∙ ap (λ (p : ℕ). p * 2 ^ (64 - 8 * size)) (sym (pow_bytes size)) in
    (nat.div-lt_iff_lt-mul (pow_pos (64 - 8 * size))).1 (subst (λ (p : ℕ). n < p) whole small)

high_digit : (k n : ℕ) → byte_at k n / 16 ≡ n / 16 ^ suc (2 * k) % 16
high_digit k n =
    let quotient = nat.div-div-eq-div-mul n (16 ^ (2 * k)) 16 in
    rw (byte_at_is k n, pow_256 k, nat.pow-suc 16 (2 * k), ← quotient) (omega arith)

low_digit : (k n : ℕ) → byte_at k n % 16 ≡ n / 16 ^ (2 * k) % 16
low_digit k n = rw (byte_at_is k n, pow_256 k) (omega arith)

-- the digits of the bytes are the digits of the number
pub hex_of_bytes : (k n : ℕ) → encode_lower (bytes_high_first k n) ≡ hex_digits (2 * k) n
unfolding encode_with hex_digits
hex_of_bytes zero n = refl
hex_of_bytes (suc k) n =
    let twice : 2 * suc k ≡ suc (suc (2 * k)) = omega arith in
    rw (twice, high_digit k n, low_digit k n, hex_of_bytes k n) refl

byte_below : (k n : ℕ) → byte_at k n < 256
byte_below k n = rw (byte_at_is k n) (omega arith)

-- bytes are below 256
pub IsBytes-bytes_high_first : (k n : ℕ) → IsBytes (bytes_high_first k n)
IsBytes-bytes_high_first zero n i = lit< tt
IsBytes-bytes_high_first (suc k) n zero = byte_below k n
IsBytes-bytes_high_first (suc k) n (suc i) = IsBytes-bytes_high_first k n i
